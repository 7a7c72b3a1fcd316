-- Neighbours in a path or on a cycle are its edges, and it is a path or a cycle of them.
use Rattle.std.proofs.Common.{inl, inr, ℕ, List, [], ◌∷◌, refl, subst}
use Rattle.std.proofs.lemmas.Bool.{cases_eq}
use Rattle.order_paths.specs.Neighbours.{AreNeighbours, AreOnCycle}
use Rattle.order_paths.specs.Paths.{Linked, last_of, IsCycle}
use Rattle.order_paths.proofs.Decisions.{Decision, Decision-both, Decision-either}
use Rattle.order_paths.proofs.Reach.{Linked-mono}

-- whether numbers are neighbours is decided
pub AreNeighbours-decided : (numbers : List ℕ) (u v : ℕ) → Decision (AreNeighbours numbers u v)
AreNeighbours-decided [] u v = inr (λ h. h)
AreNeighbours-decided (x ∷ []) u v = inr (λ h. h)
AreNeighbours-decided (x ∷ y ∷ rest) u v = Decision-either (Decision-both (cases_eq x u) (cases_eq y v)) (AreNeighbours-decided (y ∷ rest) u v)

-- neighbours in a list that edges link are an edge
pub Linked-neighbours : (Edge : ℕ → ℕ → Type 0) (numbers : List ℕ) → Linked Edge numbers → (u v : ℕ) → AreNeighbours numbers u v → Edge u v
Linked-neighbours Edge [] linked u v next = absurd next
Linked-neighbours Edge (x ∷ []) linked u v next = absurd next
Linked-neighbours Edge (x ∷ y ∷ rest) linked u v (inl here) = subst (λ n. Edge u n) here.1 (subst (λ n. Edge n y) here.0 linked.0)
Linked-neighbours Edge (x ∷ y ∷ rest) linked u v (inr later) = Linked-neighbours Edge (y ∷ rest) linked.1 u v later

-- neighbours link a list
pub neighbours_link : (numbers : List ℕ) → Linked (AreNeighbours numbers) numbers
neighbours_link [] = tt
neighbours_link (x ∷ []) = tt
neighbours_link (x ∷ y ∷ rest) =
    (inl (refl, refl), Linked-mono (AreNeighbours (y ∷ rest)) (AreNeighbours (x ∷ y ∷ rest)) (λ u v next. inr next) (y ∷ rest) (neighbours_link (y ∷ rest)))

-- whether they are on a cycle is decided
pub AreOnCycle-decided : (cycle : List ℕ) (u v : ℕ) → Decision (AreOnCycle cycle u v)
AreOnCycle-decided [] u v = inr (λ h. h)
AreOnCycle-decided (x ∷ rest) u v = Decision-either (AreNeighbours-decided (x ∷ rest) u v) (Decision-both (cases_eq (last_of x rest) u) (cases_eq x v))

-- they are an edge of each relation of which the list is a cycle
pub IsCycle-on_cycle : (Edge : ℕ → ℕ → Type 0) (cycle : List ℕ) → IsCycle Edge cycle → (u v : ℕ) → AreOnCycle cycle u v → Edge u v
IsCycle-on_cycle Edge [] closed u v on = absurd on
IsCycle-on_cycle Edge (x ∷ rest) closed u v (inl next) = Linked-neighbours Edge (x ∷ rest) closed.0 u v next
IsCycle-on_cycle Edge (x ∷ rest) closed u v (inr ends) = subst (λ n. Edge u n) ends.1 (subst (λ n. Edge n x) ends.0 closed.1)

-- a cycle is one of the edges on it
pub on_cycle_closes : (Edge : ℕ → ℕ → Type 0) (cycle : List ℕ) → IsCycle Edge cycle → IsCycle (AreOnCycle cycle) cycle
on_cycle_closes Edge [] closed = closed
on_cycle_closes Edge (x ∷ rest) closed =
    (Linked-mono (AreNeighbours (x ∷ rest)) (AreOnCycle (x ∷ rest)) (λ u v next. inl next) (x ∷ rest) (neighbours_link (x ∷ rest)), inr (refl, refl))

-- Paths over any relation of numbers: how they join and part, what holds along them, and how they are decided.
use Rattle.std.proofs.Common.{ℕ, zero, suc, ◌<◌, ◌⊎◌, inl, inr, ◌↔◌, List, [], ◌∷◌, refl, sym, ◌∙◌, subst, arith}
use Rattle.std.proofs.lemmas.Bool.{cases_order}
use Rattle.order_paths.specs.Paths.{Linked, last_of, IsPath, Reaches, IsCycle, HasCycle}
use Rattle.order_paths.proofs.Decisions.{Decision, Decision-both, Decision-either, Decision-iff, Decision-some}

-- An edge is a path.
pub Reaches-edge : (Edge : ℕ → ℕ → Type 0) (u v : ℕ) → Edge u v → Reaches Edge u v
Reaches-edge Edge u v e = (u ∷ v ∷ [], ((refl, refl), (e, tt)))

-- the list with a number in front whose edge leads to its first
IsPath-prefix : (Edge : ℕ → ℕ → Type 0) (u w v : ℕ) (path : List ℕ) → Edge u w → IsPath Edge w v path → IsPath Edge u v (u ∷ path)
IsPath-prefix Edge u w v [] e p = absurd p.0
IsPath-prefix Edge u w v (x ∷ []) e p = absurd p.0
IsPath-prefix Edge u w v (x ∷ y ∷ rest) e p = ((refl, p.0.1), (subst (λ n. Edge u n) (sym p.0.0) e, p.1))

-- An edge and a path from its end are a path.
pub Reaches-prefix : (Edge : ℕ → ℕ → Type 0) (u w v : ℕ) → Edge u w → Reaches Edge w v → Reaches Edge u v
Reaches-prefix Edge u w v e p = (u ∷ p.0, IsPath-prefix Edge u w v p.0 e p.1)

-- What joins, and holds along each edge, holds of the first and last of linked numbers.
Linked-into : (Edge Fact : ℕ → ℕ → Type 0) → ((x y z : ℕ) → Fact x y → Fact y z → Fact x z) → ((x y : ℕ) → Edge x y → Fact x y) →
    (x y : ℕ) (rest : List ℕ) → Linked Edge (x ∷ y ∷ rest) → Fact x (last_of y rest)
Linked-into Edge Fact join each x y [] l = each x y l.0
Linked-into Edge Fact join each x y (z ∷ rest) l = join x y (last_of z rest) (each x y l.0) (Linked-into Edge Fact join each y z rest l.1)

-- and so of the ends of a path that is written out
IsPath-into : (Edge Fact : ℕ → ℕ → Type 0) → ((x y z : ℕ) → Fact x y → Fact y z → Fact x z) → ((x y : ℕ) → Edge x y → Fact x y) →
    (u v : ℕ) (path : List ℕ) → IsPath Edge u v path → Fact u v
IsPath-into Edge Fact join each u v [] p = absurd p.0
IsPath-into Edge Fact join each u v (x ∷ []) p = absurd p.0
IsPath-into Edge Fact join each u v (x ∷ y ∷ rest) p =
    subst (λ n. Fact n v) p.0.0 (subst (λ n. Fact x n) p.0.1 (Linked-into Edge Fact join each x y rest p.1))

-- What joins, and holds along each edge, holds of the ends of a path.
pub Reaches-into : (Edge Fact : ℕ → ℕ → Type 0) → ((x y z : ℕ) → Fact x y → Fact y z → Fact x z) → ((x y : ℕ) → Edge x y → Fact x y) →
    (u v : ℕ) → Reaches Edge u v → Fact u v
Reaches-into Edge Fact join each u v p = IsPath-into Edge Fact join each u v p.0 p.1

-- Two paths join where one ends and the other begins.
pub Reaches-join : (Edge : ℕ → ℕ → Type 0) (u w v : ℕ) → Reaches Edge u w → Reaches Edge w v → Reaches Edge u v
Reaches-join Edge u w v p =
    Reaches-into Edge (λ x y. (z : ℕ) → Reaches Edge y z → Reaches Edge x z)
    (λ x y z first second end q. first end (second end q)) (λ x y e z q. Reaches-prefix Edge x y z e q) u w p v

-- Where each edge of one relation is a path of another, so is each path.
pub Reaches-flat : (Edge Other : ℕ → ℕ → Type 0) → ((x y : ℕ) → Edge x y → Reaches Other x y) → (u v : ℕ) → Reaches Edge u v → Reaches Other u v
Reaches-flat Edge Other each u v p = Reaches-into Edge (λ x y. Reaches Other x y) (λ x y z. Reaches-join Other x y z) each u v p

-- More edges have all the paths.
pub Reaches-mono : (Edge Other : ℕ → ℕ → Type 0) → ((x y : ℕ) → Edge x y → Other x y) → (u v : ℕ) → Reaches Edge u v → Reaches Other u v
Reaches-mono Edge Other more u v p = Reaches-flat Edge Other (λ x y e. Reaches-edge Other x y (more x y e)) u v p

-- Numbers that are linked are linked by more edges too.
pub Linked-mono : (Edge Other : ℕ → ℕ → Type 0) → ((x y : ℕ) → Edge x y → Other x y) → (numbers : List ℕ) → Linked Edge numbers → Linked Other numbers
Linked-mono Edge Other more [] l = tt
Linked-mono Edge Other more (x ∷ []) l = tt
Linked-mono Edge Other more (x ∷ y ∷ rest) l = (more x y l.0, Linked-mono Edge Other more (y ∷ rest) l.1)

-- Numbers that two relations link, both of them link together.
pub Linked-both : (Edge Other : ℕ → ℕ → Type 0) (numbers : List ℕ) → Linked Edge numbers → Linked Other numbers → Linked (λ x y. Edge x y × Other x y) numbers
Linked-both Edge Other [] l o = tt
Linked-both Edge Other (x ∷ []) l o = tt
Linked-both Edge Other (x ∷ y ∷ rest) l o = ((l.0, o.0), Linked-both Edge Other (y ∷ rest) l.1 o.1)

-- A path is one of more edges too.
pub IsPath-mono : (Edge Other : ℕ → ℕ → Type 0) → ((x y : ℕ) → Edge x y → Other x y) → (u v : ℕ) (path : List ℕ) → IsPath Edge u v path → IsPath Other u v path
IsPath-mono Edge Other more u v path p = (p.0, Linked-mono Edge Other more path p.1)

-- A cycle is one of more edges too.
pub IsCycle-mono : (Edge Other : ℕ → ℕ → Type 0) → ((x y : ℕ) → Edge x y → Other x y) → (cycle : List ℕ) → IsCycle Edge cycle → IsCycle Other cycle
IsCycle-mono Edge Other more [] c = c
IsCycle-mono Edge Other more (x ∷ rest) c = (Linked-mono Edge Other more (x ∷ rest) c.0, more (last_of x rest) x c.1)

-- More edges have a cycle where fewer have one.
pub HasCycle-mono : (Edge Other : ℕ → ℕ → Type 0) → ((x y : ℕ) → Edge x y → Other x y) → HasCycle Edge → HasCycle Other
HasCycle-mono Edge Other more c = (c.0, IsCycle-mono Edge Other more c.0 c.1)

-- a path that is written out is one edge, or begins with an edge to where another path begins
IsPath-split_first : (Edge : ℕ → ℕ → Type 0) (u v : ℕ) (path : List ℕ) → IsPath Edge u v path →
    Edge u v ⊎ ((w : ℕ) × Edge u w × Reaches Edge w v)
IsPath-split_first Edge u v [] p = absurd p.0
IsPath-split_first Edge u v (x ∷ []) p = absurd p.0
IsPath-split_first Edge u v (x ∷ y ∷ []) p = inl (subst (λ n. Edge n v) p.0.0 (subst (λ n. Edge x n) p.0.1 p.1.0))
IsPath-split_first Edge u v (x ∷ y ∷ z ∷ rest) p =
    inr (y, subst (λ n. Edge n y) p.0.0 p.1.0, (y ∷ z ∷ rest, ((refl, p.0.1), p.1.1)))

-- A path is one edge, or begins with an edge to where another path begins.
pub Reaches-split_first : (Edge : ℕ → ℕ → Type 0) (u v : ℕ) → Reaches Edge u v → Edge u v ⊎ ((w : ℕ) × Edge u w × Reaches Edge w v)
Reaches-split_first Edge u v p = IsPath-split_first Edge u v p.0 p.1

-- A path is one edge, or ends with an edge from where another path ends.
pub Reaches-split_last : (Edge : ℕ → ℕ → Type 0) (u v : ℕ) → Reaches Edge u v → Edge u v ⊎ ((w : ℕ) × Reaches Edge u w × Edge w v)
Reaches-split_last Edge u v p = Reaches-into Edge (λ x y. Edge x y ⊎ ((w : ℕ) × Reaches Edge x w × Edge w y)) join (λ x y e. inl e) u v p
  where
    start : (x y : ℕ) → Edge x y ⊎ ((w : ℕ) × Reaches Edge x w × Edge w y) → Reaches Edge x y
    start x y (inl e) = Reaches-edge Edge x y e
    start x y (inr q) = Reaches-join Edge x q.0 y q.1 (Reaches-edge Edge q.0 y q.2)

    join : (x y z : ℕ) → Edge x y ⊎ ((w : ℕ) × Reaches Edge x w × Edge w y) → Edge y z ⊎ ((w : ℕ) × Reaches Edge y w × Edge w z) →
        Edge x z ⊎ ((w : ℕ) × Reaches Edge x w × Edge w z)
    join x y z first (inl e) = inr (y, start x y first, e)
    join x y z first (inr q) = inr (q.0, Reaches-join Edge x y q.0 (start x y first) q.1, q.2)

-- Linked numbers and an edge from their last are a path.
Linked-Reaches : (Edge : ℕ → ℕ → Type 0) (x : ℕ) (rest : List ℕ) (v : ℕ) → Linked Edge (x ∷ rest) → Edge (last_of x rest) v → Reaches Edge x v
Linked-Reaches Edge x [] v l e = Reaches-edge Edge x v e
Linked-Reaches Edge x (y ∷ rest) v l e = Reaches-prefix Edge x y v l.0 (Linked-Reaches Edge y rest v l.1 e)

-- A cycle is a path from its first number to itself.
pub IsCycle-Reaches : (Edge : ℕ → ℕ → Type 0) (x : ℕ) (rest : List ℕ) → IsCycle Edge (x ∷ rest) → Reaches Edge x x
IsCycle-Reaches Edge x rest c = Linked-Reaches Edge x rest x c.0 c.1

-- the numbers of a path from a number to itself, behind the first, are a cycle
HasCycle-from_path : (Edge : ℕ → ℕ → Type 0) (u : ℕ) (path : List ℕ) → IsPath Edge u u path → HasCycle Edge
HasCycle-from_path Edge u [] p = absurd p.0
HasCycle-from_path Edge u (x ∷ []) p = absurd p.0
HasCycle-from_path Edge u (x ∷ y ∷ rest) p = (y ∷ rest, (p.1.1, subst (λ n. Edge n y) (p.0.0 ∙ sym p.0.1) p.1.0))

-- There is a cycle where a number has a path to itself.
pub HasCycle-Reaches : (Edge : ℕ → ℕ → Type 0) (u : ℕ) → Reaches Edge u u → HasCycle Edge
HasCycle-Reaches Edge u p = HasCycle-from_path Edge u p.0 p.1

-- There is a cycle exactly if some number has a path to itself.
pub HasCycle-iff : (Edge : ℕ → ℕ → Type 0) → HasCycle Edge ↔ ((u : ℕ) × Reaches Edge u u)
HasCycle-iff Edge = (λ c. from_cycle c.0 c.1, λ p. HasCycle-Reaches Edge p.0 p.1)
  where
    from_cycle : (cycle : List ℕ) → IsCycle Edge cycle → (u : ℕ) × Reaches Edge u u
    from_cycle [] c = absurd c
    from_cycle (x ∷ rest) c = (x, IsCycle-Reaches Edge x rest c)

-- The ends of a path lie below n where the edges do.
pub Reaches-below : (Edge : ℕ → ℕ → Type 0) (n : ℕ) → ((x y : ℕ) → Edge x y → (x < n) × (y < n)) → (u v : ℕ) → Reaches Edge u v → (u < n) × (v < n)
Reaches-below Edge n below u v p = Reaches-into Edge (λ x y. (x < n) × (y < n)) (λ x y z first second. (first.0, second.1)) below u v p

-- there is a path whose inner numbers lie below k
abbrev pub InnerBelow : (ℕ → ℕ → Type 0) → ℕ → ℕ → ℕ → Type 0
InnerBelow Edge zero u v = Edge u v
InnerBelow Edge (suc k) u v = InnerBelow Edge k u v ⊎ (InnerBelow Edge k u k × InnerBelow Edge k k v)

-- such paths are decided where the edges are
InnerBelow-decided : (Edge : ℕ → ℕ → Type 0) → ((x y : ℕ) → Decision (Edge x y)) → (k u v : ℕ) → Decision (InnerBelow Edge k u v)
InnerBelow-decided Edge decide zero u v = decide u v
InnerBelow-decided Edge decide (suc k) u v = Decision-either (InnerBelow-decided Edge decide k u v)
    (Decision-both (InnerBelow-decided Edge decide k u k) (InnerBelow-decided Edge decide k k v))

-- such paths are paths
InnerBelow-Reaches : (Edge : ℕ → ℕ → Type 0) (k u v : ℕ) → InnerBelow Edge k u v → Reaches Edge u v
InnerBelow-Reaches Edge zero u v e = Reaches-edge Edge u v e
InnerBelow-Reaches Edge (suc k) u v (inl p) = InnerBelow-Reaches Edge k u v p
InnerBelow-Reaches Edge (suc k) u v (inr p) = Reaches-join Edge u k v (InnerBelow-Reaches Edge k u k p.0) (InnerBelow-Reaches Edge k k v p.1)

-- such paths that end, or begin, at the number k have it nowhere inside
InnerBelow-to : (Edge : ℕ → ℕ → Type 0) (k u : ℕ) → InnerBelow Edge (suc k) u k → InnerBelow Edge k u k
InnerBelow-to Edge k u (inl p) = p
InnerBelow-to Edge k u (inr p) = p.0

InnerBelow-from : (Edge : ℕ → ℕ → Type 0) (k v : ℕ) → InnerBelow Edge (suc k) k v → InnerBelow Edge k k v
InnerBelow-from Edge k v (inl p) = p
InnerBelow-from Edge k v (inr p) = p.1

-- such paths join at a number below k
InnerBelow-join : (Edge : ℕ → ℕ → Type 0) (k u w v : ℕ) → w < k → InnerBelow Edge k u w → InnerBelow Edge k w v → InnerBelow Edge k u v
InnerBelow-join Edge zero u w v h p q = absurd (omega arith)
InnerBelow-join Edge (suc k) u w v h p q = elim (cases_order w k) [
  | inl e ↦ inr (InnerBelow-to Edge k u (subst (λ n. InnerBelow Edge (suc k) u n) e p), InnerBelow-from Edge k v (subst (λ n. InnerBelow Edge (suc k) n v) e q))
  | inr (inl below) ↦ at (λ a b c. InnerBelow-join Edge k a w c below) p q
  | inr (inr above) ↦ absurd (omega arith)
]
  where
    at : ((a b c : ℕ) → InnerBelow Edge k a w → InnerBelow Edge k w c → InnerBelow Edge k a c) →
        InnerBelow Edge (suc k) u w → InnerBelow Edge (suc k) w v → InnerBelow Edge (suc k) u v
    at join (inl p) (inl q) = inl (join u w v p q)
    at join (inl p) (inr q) = inr (join u w k p q.0, q.1)
    at join (inr p) (inl q) = inr (p.0, join k w v p.1 q)
    at join (inr p) (inr q) = inr (p.0, q.1)

-- an edge is such a path
InnerBelow-edge : (Edge : ℕ → ℕ → Type 0) (k u v : ℕ) → Edge u v → InnerBelow Edge k u v
InnerBelow-edge Edge zero u v e = e
InnerBelow-edge Edge (suc k) u v e = inl (InnerBelow-edge Edge k u v e)

-- each path is such a path at n, where the edges lie below n
InnerBelow-complete : (Edge : ℕ → ℕ → Type 0) (n : ℕ) → ((x y : ℕ) → Edge x y → (x < n) × (y < n)) →
    (u v : ℕ) → Reaches Edge u v → InnerBelow Edge n u v
InnerBelow-complete Edge n below u v p =
    (Reaches-into Edge (λ x y. (x < n) × InnerBelow Edge n x y)
    (λ x y z first second. (first.0, InnerBelow-join Edge n x y z second.0 first.1 second.1))
    (λ x y e. ((below x y e).0, InnerBelow-edge Edge n x y e)) u v p).1

-- Whether there is a path is decided, where the edges are decided and lie below n.
pub Reaches-decided : (Edge : ℕ → ℕ → Type 0) (n : ℕ) → ((x y : ℕ) → Decision (Edge x y)) → ((x y : ℕ) → Edge x y → (x < n) × (y < n)) →
    (u v : ℕ) → Decision (Reaches Edge u v)
Reaches-decided Edge n decide below u v =
    Decision-iff (InnerBelow-Reaches Edge n u v) (InnerBelow-complete Edge n below u v) (InnerBelow-decided Edge decide n u v)

-- Whether there is a cycle is decided, where the edges are decided and lie below n.
pub HasCycle-decided : (Edge : ℕ → ℕ → Type 0) (n : ℕ) → ((x y : ℕ) → Decision (Edge x y)) → ((x y : ℕ) → Edge x y → (x < n) × (y < n)) →
    Decision (HasCycle Edge)
HasCycle-decided Edge n decide below =
    let every = HasCycle-iff Edge in
    Decision-iff every.1 every.0
    (Decision-some (λ u. Reaches Edge u u) (λ u. Reaches-decided Edge n decide below u u) n (λ u p. (Reaches-below Edge n below u u p).0))

-- Events with one barrier more before them.
use Rattle.std.proofs.Common.{◌≡◌, ◌∙◌, ℕ, suc, ◌<◌, true, false, cond, eqb, List, [], ◌∷◌, ◌++◌, map, refl, ap, arith}
use Rattle.std.proofs.lemmas.Bool.{eq-eqb, ne_eqb}
use Rattle.std.proofs.lemmas.List.{map-append}
use Rattle.tso_ops.specs.declared.ops.Outcome.{Outcome}
use Rattle.tso_ops.specs.declared.ops.Outcome.TheVariants.{Ld, St, Sw, Mb, Sb}
use Rattle.tso_ops.specs.declared.events.Event.{Event}
use Rattle.tso_ops.specs.Events.{events_from, events_of_lists}

-- the event with one barrier more before it, if it is this processor's
pub with_barrier : ℕ → Event → Event
with_barrier p e = cond (eqb e.proc p) (record e { bars = suc e.bars }) e

-- an event of the processor
pub with_barrier-own : (p : ℕ) (e : Event) → e.proc ≡ p → with_barrier p e ≡ record e { bars = suc e.bars }
unfolding with_barrier
with_barrier-own p e own = let test : eqb e.proc p ≡ true = eq-eqb e.proc p own in rw test refl

-- one of another
pub with_barrier-other : (p : ℕ) (e : Event) → (e.proc ≡ p → ⊥) → with_barrier p e ≡ e
unfolding with_barrier
with_barrier-other p e other = let test : eqb e.proc p ≡ false = ne_eqb e.proc p other in rw test refl

-- the first of two lists changed
cons : (x y : Event) (xs ys : List Event) → x ≡ y → xs ≡ ys → x ∷ xs ≡ y ∷ ys
cons x y xs ys first rest = ap (λ z. z ∷ xs) first ∙ ap (λ zs. y ∷ zs) rest

-- a processor's events, with one barrier more before them
pub barrier_own : (p bars stbars : ℕ) (ops : List Outcome) → map (with_barrier p) (events_from p bars stbars ops) ≡ events_from p (suc bars) stbars ops
barrier_own p bars stbars [] = refl
barrier_own p bars stbars (Ld a r ∷ ops) = cons _ _ _ _ (with_barrier-own p _ refl) (barrier_own p bars stbars ops)
barrier_own p bars stbars (St a v ∷ ops) = cons _ _ _ _ (with_barrier-own p _ refl) (barrier_own p bars stbars ops)
barrier_own p bars stbars (Sw a r v ∷ ops) = cons _ _ _ _ (with_barrier-own p _ refl) (cons _ _ _ _ (with_barrier-own p _ refl) (barrier_own p bars stbars ops))
barrier_own p bars stbars (Mb ∷ ops) = barrier_own p (suc bars) stbars ops
barrier_own p bars stbars (Sb ∷ ops) = barrier_own p bars (suc stbars) ops

-- another's stay
barrier_other : (p q bars stbars : ℕ) (ops : List Outcome) → (q ≡ p → ⊥) → map (with_barrier p) (events_from q bars stbars ops) ≡ events_from q bars stbars ops
barrier_other p q bars stbars [] other = refl
barrier_other p q bars stbars (Ld a r ∷ ops) other = cons _ _ _ _ (with_barrier-other p _ other) (barrier_other p q bars stbars ops other)
barrier_other p q bars stbars (St a v ∷ ops) other = cons _ _ _ _ (with_barrier-other p _ other) (barrier_other p q bars stbars ops other)
barrier_other p q bars stbars (Sw a r v ∷ ops) other =
    cons _ _ _ _ (with_barrier-other p _ other) (cons _ _ _ _ (with_barrier-other p _ other) (barrier_other p q bars stbars ops other))
barrier_other p q bars stbars (Mb ∷ ops) other = barrier_other p q (suc bars) stbars ops other
barrier_other p q bars stbars (Sb ∷ ops) other = barrier_other p q bars (suc stbars) ops other

-- so do those of later processors
pub barrier_later : (p q : ℕ) (lists : List (List Outcome)) → p < q → map (with_barrier p) (events_of_lists q lists) ≡ events_of_lists q lists
barrier_later p q [] less = refl
barrier_later p q (ops ∷ lists) less =
    map-append (with_barrier p) (events_from q 0 0 ops) (events_of_lists (suc q) lists)
    ∙ ap (λ es. es ++ map (with_barrier p) (events_of_lists (suc q) lists)) (barrier_other p q 0 0 ops (λ same. omega (arith, less, same)))
    ∙ ap (λ es. events_from q 0 0 ops ++ es) (barrier_later p (suc q) lists (omega (arith, less)))

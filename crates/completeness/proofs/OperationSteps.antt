-- The steps that do the operations of lists, one processor after the other, and the operations that are read back from them.
use Rattle.std.proofs.Common.{◌≡◌, ◌∙◌, refl, ap, subst, ℕ, zero, suc, ◌+◌, ◌<◌, ◌≤◌, List, [], ◌∷◌, ◌++◌, length, get_or, arith}
use Rattle.std.proofs.lemmas.List.{append-nil}
use Rattle.std.proofs.lemmas.List.Elements.{filter_map-append}
use Rattle.tso_ops.specs.declared.ops.Outcome.{Outcome}
use Rattle.tso_ops.specs.declared.ops.Outcome.TheVariants.{Ld, St, Sw, Mb, Sb}
use Rattle.unit_core.specs.declared.steps.Step.{Step}
use Rattle.unit_core.specs.declared.steps.Step.TheVariants.{Store, Load, Swap, Membar, Stbar}
use Rattle.unit_core.specs.Machine.{lists_from, outcome_for, outcomes_of}
use Rattle.embedding.proofs.Moments.{outcomes-other, outcomes-own}

-- the step of processor p that is answered so
abbrev pub step_of : ℕ → Outcome → Step
step_of p (Ld a r) = Load p a r
step_of p (St a v) = Store p a v
step_of p (Sw a r v) = Swap p a r v
step_of p Mb = Membar p
step_of p Sb = Stbar p

abbrev pub steps_from : ℕ → List Outcome → List Step
steps_from p [] = []
steps_from p (o ∷ ops) = step_of p o ∷ steps_from p ops

-- the steps of these lists, of which the first is processor p's
abbrev pub steps_of_lists : ℕ → List (List Outcome) → List Step
steps_of_lists p [] = []
steps_of_lists p (ops ∷ lists) = steps_from p ops ++ steps_of_lists (suc p) lists

own-step : (p : ℕ) (o : Outcome) (steps : List Step) → outcomes_of p (step_of p o ∷ steps) ≡ o ∷ outcomes_of p steps
own-step p (Ld a r) steps = outcomes-own (Load p a r) steps
own-step p (St a v) steps = outcomes-own (Store p a v) steps
own-step p (Sw a r v) steps = outcomes-own (Swap p a r v) steps
own-step p Mb steps = outcomes-own (Membar p) steps
own-step p Sb steps = outcomes-own (Stbar p) steps

other-step : (p : ℕ) (o : Outcome) (steps : List Step) (q : ℕ) → (p ≡ q → ⊥) → outcomes_of q (step_of p o ∷ steps) ≡ outcomes_of q steps
other-step p (Ld a r) steps q other = outcomes-other (Load p a r) steps q other
other-step p (St a v) steps q other = outcomes-other (Store p a v) steps q other
other-step p (Sw a r v) steps q other = outcomes-other (Swap p a r v) steps q other
other-step p Mb steps q other = outcomes-other (Membar p) steps q other
other-step p Sb steps q other = outcomes-other (Stbar p) steps q other

from-own : (p : ℕ) (ops : List Outcome) → outcomes_of p (steps_from p ops) ≡ ops
from-own p [] = refl
from-own p (o ∷ ops) = own-step p o (steps_from p ops) ∙ ap (λ rest. o ∷ rest) (from-own p ops)

from-other : (p : ℕ) (ops : List Outcome) (q : ℕ) → (p ≡ q → ⊥) → outcomes_of q (steps_from p ops) ≡ []
from-other p [] q other = refl
from-other p (o ∷ ops) q other = other-step p o (steps_from p ops) q other ∙ from-other p ops q other

outcomes-append : (q : ℕ) (xs ys : List Step) → outcomes_of q (xs ++ ys) ≡ outcomes_of q xs ++ outcomes_of q ys
outcomes-append q xs ys = filter_map-append (outcome_for q) xs ys

-- another processor's operations don't count
skip-other : (p : ℕ) (ops : List Outcome) (steps : List Step) (q : ℕ) → (p ≡ q → ⊥) → outcomes_of q (steps_from p ops ++ steps) ≡ outcomes_of q steps
skip-other p ops steps q other =
    outcomes-append q (steps_from p ops) steps ∙ ap (λ first. first ++ outcomes_of q steps) (from-other p ops q other)

outcomes-below : (p : ℕ) (lists : List (List Outcome)) (q : ℕ) → q < p → outcomes_of q (steps_of_lists p lists) ≡ []
outcomes-below p [] q below = refl
outcomes-below p (ops ∷ lists) q below =
    skip-other p ops (steps_of_lists (suc p) lists) q (λ same. omega (arith, same, below)) ∙ outcomes-below (suc p) lists q (omega (arith, below))

pub outcomes-past : (p : ℕ) (lists : List (List Outcome)) (q : ℕ) → p + length lists ≤ q → outcomes_of q (steps_of_lists p lists) ≡ []
outcomes-past p [] q past = refl
outcomes-past p (ops ∷ lists) q past =
    skip-other p ops (steps_of_lists (suc p) lists) q (λ same. omega (arith, same, past)) ∙ outcomes-past (suc p) lists q (omega (arith, past))

outcomes-at : (p : ℕ) (lists : List (List Outcome)) (k : ℕ) → outcomes_of (p + k) (steps_of_lists p lists) ≡ get_or lists k []
outcomes-at p [] zero = refl
outcomes-at p [] (suc k) = refl
outcomes-at p (ops ∷ lists) zero =
    let later = steps_of_lists (suc p) lists in
    let same : p ≡ p + 0 = omega arith in
    let own : outcomes_of p (steps_from p ops ++ later) ≡ ops =
    outcomes-append p (steps_from p ops) later ∙ ap (λ first. first ++ outcomes_of p later) (from-own p ops)
    ∙ ap (λ rest. ops ++ rest) (outcomes-below (suc p) lists p (omega arith)) ∙ append-nil ops in
    subst (λ q. outcomes_of q (steps_from p ops ++ later) ≡ ops) same own
outcomes-at p (ops ∷ lists) (suc k) =
    let later = steps_of_lists (suc p) lists in
    let same : suc p + k ≡ p + suc k = omega arith in
    skip-other p ops later (p + suc k) (λ equal. omega (arith, equal))
    ∙ subst (λ q. outcomes_of q later ≡ get_or lists k []) same (outcomes-at (suc p) lists k)

-- steps with the outcomes of lists have these lists
lists-read : (p : ℕ) (lists : List (List Outcome)) (steps : List Step) → ((k : ℕ) → outcomes_of (p + k) steps ≡ get_or lists k []) →
    lists_from p (length lists) steps ≡ lists
lists-read p [] steps read = refl
lists-read p (ops ∷ lists) steps read =
    let here : p + 0 ≡ p = omega arith in
    let first : outcomes_of p steps ≡ ops = subst (λ q. outcomes_of q steps ≡ ops) here (read 0) in
    ap (λ o. o ∷ lists_from (suc p) (length lists) steps) first
    ∙ ap (λ rest. ops ∷ rest) (lists-read (suc p) lists steps (λ k.
    let same : p + suc k ≡ suc p + k = omega arith in
    subst (λ q. outcomes_of q steps ≡ get_or lists k []) same (read (suc k))))

-- steps with the outcomes of the lists' own steps have these lists
pub lists-of_steps : (lists : List (List Outcome)) (steps : List Step) → ((q : ℕ) → outcomes_of q steps ≡ outcomes_of q (steps_of_lists 0 lists)) →
    lists_from 0 (length lists) steps ≡ lists
lists-of_steps lists steps same = lists-read 0 lists steps (λ k. same (0 + k) ∙ outcomes-at 0 lists k)

-- When what was answered agrees with steps and operations.
use Rattle.std.proofs.Common.{◌≡◌, ◌∙◌, sym, ap, refl, ℕ, ◌+◌, ◌≤◌, inl, inr, Some, List, [], ◌∷◌, ◌++◌, length, slice_get, map, take, drop, arith}
use Rattle.std.specs.Option.{option_map}
use Rattle.std.proofs.lemmas.List.{length-take-le, take-append-drop}
use Rattle.std.proofs.lemmas.List.Elements.{filter_map-append}
use Rattle.std.proofs.lemmas.Bool.{cases_eq}
use Rattle.std.proofs.lemmas.Option.{slice_get-map}
use Rattle.tso_ops.specs.declared.ops.Op.{Op}
use Rattle.tso_ops.specs.declared.ops.Outcome.{Outcome}
use Rattle.tso_ops.specs.Values.{ProgramValue, op_of}
use Rattle.unit_core.specs.declared.steps.Step.{Step}
use Rattle.unit_core.specs.Machine.{outcome_for, outcomes_of}
use Rattle.unit_core.proofs.OutcomeFacts.{outcomes-more-some, take-next}
use Rattle.issue_desk.specs.Desks.{PassValue}
use Rattle.issue_desk.specs.Finishing.{AgreeBelow, Agrees}

-- one outcome more is of one operation more
pub ops-next : (outcomes : List Outcome) (ops : List Op) (k : ℕ) (outcome : Outcome) (op : Op) → slice_get outcomes k ≡ Some outcome → slice_get ops k ≡ Some op → op_of outcome ≡ op →
    take k (map op_of outcomes) ≡ take k ops → take (k + 1) (map op_of outcomes) ≡ take (k + 1) ops
ops-next outcomes ops k outcome op here there is so_far =
    take-next (map op_of outcomes) k (op_of outcome) (slice_get-map op_of outcomes k ∙ ap (option_map op_of) here) ∙ ap (λ xs. xs ++ op_of outcome ∷ []) so_far
    ∙ ap (λ o. take k ops ++ o ∷ []) is ∙ sym (take-next ops k op there)

-- one step more answers one outcome more
pub answered-next : (outcomes : List Outcome) (p : ℕ) (steps : List Step) (answered k : ℕ) (step : Step) (outcome : Outcome) → slice_get steps k ≡ Some step →
    slice_get outcomes answered ≡ Some outcome → Some outcome ≡ outcome_for p step → take answered outcomes ≡ outcomes_of p (take k steps) →
    take (answered + 1) outcomes ≡ outcomes_of p (take (k + 1) steps)
answered-next outcomes p steps answered k step outcome read here is so_far =
    take-next outcomes answered outcome here ∙ outcomes-more-some p steps k (take answered outcomes) step outcome read so_far is

after-first : {X : Type 0} (xs ys : List X) (x : X) (n : ℕ) → length xs ≡ n → slice_get ((xs ++ x ∷ []) ++ ys) n ≡ Some x
after-first xs ys x n long = ap (λ k. slice_get ((xs ++ x ∷ []) ++ ys) k) (sym long) ∙ here xs
  where
    here : (zs : List _) → slice_get ((zs ++ x ∷ []) ++ ys) (length zs) ≡ Some x
    here [] = refl
    here (z ∷ zs) = here zs

-- a step that answers another outcome than the one at its place
pub answered-other : (outcomes : List Outcome) (p : ℕ) (steps : List Step) (answered k : ℕ) (step : Step) (outcome : Outcome) → slice_get steps k ≡ Some step →
    Some outcome ≡ outcome_for p step → answered ≤ length outcomes → take answered outcomes ≡ outcomes_of p (take k steps) → (slice_get outcomes answered ≡ Some outcome → ⊥) →
    outcomes ≡ outcomes_of p steps → ⊥
answered-other outcomes p steps answered k step outcome read is within so_far differs same =
    let one = outcomes-more-some p steps k (take answered outcomes) step outcome read so_far is in
    let rest = outcomes_of p (drop (k + 1) steps) in
    let whole = ap (outcomes_of p) (sym (take-append-drop (k + 1) steps)) ∙ filter_map-append (outcome_for p) (take (k + 1) steps) (drop (k + 1) steps) ∙ ap (λ xs. xs ++ rest) (sym one) in
    differs (ap (λ xs. slice_get xs answered) (same ∙ whole) ∙ after-first (take answered outcomes) rest outcome answered (length-take-le answered outcomes within))

-- the passes up to the next one agree
pub agree-next : (steps : List Step) (program : ProgramValue) (passes : List PassValue) (p : ℕ) (pass : PassValue) → slice_get passes p ≡ Some pass → Agrees steps program pass →
    AgreeBelow p steps program passes → AgreeBelow (p + 1) steps program passes
agree-next steps program passes p pass is agrees so_far q other below read = elim (cases_eq q p) [
  | inl e ↦ (let same : other ≡ pass = one_pass other pass (sym read ∙ ap (slice_get passes) e ∙ is) in rw same agrees)
  | inr apart ↦ so_far q other (omega arith) read
]
  where
    one_pass : (x y : PassValue) → Some x ≡ Some y → x ≡ y
    one_pass x y same = cc

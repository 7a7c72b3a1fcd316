-- The words that follow by one step stand for the states that follow by one step of the machine, all of them and no others.
use Rattle.std.proofs.Common.{◌≡◌, ◌∙◌, sym, ap, refl, inl, inr, ℕ, ◌<◌, ◌==◌, cond, Bool, true, false, Option, None, Some, List, [], ◌∷◌, ◌++◌, length, slice_get, eq-eqb, arith}
use Rattle.std.specs.List.{cons_option}
use Rattle.std.specs.Option.{option_to_list}
use Rattle.std.proofs.lemmas.Bool.{ne_eqb}
use Rattle.std.proofs.lemmas.List.{append-nil}
use Rattle.tso_ops.specs.declared.ops.Outcome.{Outcome}
use Rattle.tso_ops.specs.Values.{ProgramValue, list_count, op_of, ops_at}
use Rattle.unit_core.specs.declared.steps.Step.{Step}
use Rattle.unit_core.specs.Issues.{step_of}
use Rattle.unit_core.specs.Machine.{IsAllowed, State, next, outcome_for, outcome_of, proc_of}
use Rattle.unit_core.proofs.IssueFacts.{proc_of-step_of}
use Rattle.final_states.specs.Internal.Search.{IsIn}
use Rattle.final_states.specs.Internal.Words.{all_drained, drained, following, issued, issued_by}
use Rattle.final_states.specs.Internal.Stands.{HasPlaces, Represents}
use Rattle.final_states.proofs.Members.{in-each, in-option, in-option-first, in-option-later, in-some, of-each, of-some}
use Rattle.final_states.proofs.DrainSteps.{drain-complete, drain-sound}
use Rattle.final_states.proofs.StepMoves.{stands-same}
use Rattle.final_states.proofs.IssueSteps.{issue-complete, issue-sound, step-outcome}

-- ---- steps

-- what the processors were answered, and then by the step
abbrev pub and_then : (ℕ → List Outcome) → Step → ℕ → List Outcome
and_then answered step q = answered q ++ option_to_list (outcome_for q step)

pub told_own : (answered : ℕ → List Outcome) (step : Step) (p : ℕ) (outcome : Outcome) → proc_of step ≡ p → outcome_of step ≡ Some outcome → and_then answered step p ≡ answered p ++ outcome ∷ []
told_own answered step p outcome own answers =
    ap (λ b. answered p ++ option_to_list (cond b (outcome_of step) None)) (eq-eqb (proc_of step) p own) ∙ ap (λ o. answered p ++ option_to_list o) answers

told_other : (answered : ℕ → List Outcome) (step : Step) (p q : ℕ) → proc_of step ≡ p → (q ≡ p → ⊥) → and_then answered step q ≡ answered q
told_other answered step p q own other =
    ap (λ b. answered q ++ option_to_list (cond b (outcome_of step) None)) (ne_eqb (proc_of step) q (λ e. other (sym e ∙ own))) ∙ append-nil (answered q)

silent_for : (step : Step) (q : ℕ) (b : Bool) → outcome_of step ≡ None → cond b (outcome_of step) None ≡ None
silent_for step q true silent = silent
silent_for step q false silent = refl

told_none : (answered : ℕ → List Outcome) (step : Step) → outcome_of step ≡ None → (q : ℕ) → and_then answered step q ≡ answered q
told_none answered step silent q = ap (λ o. answered q ++ option_to_list o) (silent_for step q (proc_of step == q) silent) ∙ append-nil (answered q)

-- a step of the machine after which the new words stand for the state
pub record Steps (program : ProgramValue) (addresses : List ℕ) (s : State) (answered : ℕ → List Outcome) (new : List ℕ) : Type 0 where
  pub step : Step
  pub proc : proc_of step < list_count program
  pub allowed : IsAllowed program.setting.order s step
  pub left : Represents program addresses new (next s step) (and_then answered step)

pub following-sound : (program : ProgramValue) (addresses words : List ℕ) (s : State) (answered : ℕ → List Outcome) → HasPlaces program addresses → Represents program addresses words s answered →
    (new : List ℕ) → IsIn (following program addresses words) new → Steps program addresses s answered new
following-sound program addresses words s answered places stands new in_it =
    let found = of-each (λ p. cons_option (issued program addresses words p) (all_drained program addresses words p)) 0 (list_count program) new in_it in
    let p = found.0 in
    let small : p < list_count program = omega (arith, found.2) in
    elim (in-option (issued program addresses words p) (all_drained program addresses words p) new found.3) [
      | inl is ↦
          let issues = issue-sound program addresses places words s answered stands p small new is in
          let step = step_of p issues.outcome in
          let own = proc_of-step_of p issues.outcome in
          record {
            step = step;
            proc = omega (arith, own, small);
            allowed = issues.allowed program.setting.order;
            left = issues.left (and_then answered step) (told_own answered step p issues.outcome own (step-outcome p issues.outcome)) (λ q other. told_other answered step p q own other);
          }
      | inr later ↦
          let drain = of-some (drained program addresses words p) 0 (length (ops_at program p)) new later in
          let taken = drain-sound program addresses places words s answered stands p small drain.0 new answered (λ q. refl) drain.1 in
          record {
            step = taken.step;
            proc = omega (arith, taken.proc, small);
            allowed = taken.allowed;
            left = stands-same program addresses new (next s taken.step) answered (and_then answered taken.step) (told_none answered taken.step taken.silent) taken.left;
          }
    ]

-- the new words are among those that follow, and stand for the state after the step
pub record IsFollowed (program : ProgramValue) (addresses words : List ℕ) (s : State) (answered : ℕ → List Outcome) (step : Step) : Type 0 where
  pub new : List ℕ
  pub among : IsIn (following program addresses words) new
  pub left : Represents program addresses new (next s step) (and_then answered step)

-- the outcome of the step, if it has one, is of the next operation of its processor
abbrev pub IsOfNextOp : ProgramValue → List ℕ → Step → Type 0
IsOfNextOp program words step = (outcome : Outcome) → outcome_of step ≡ Some outcome → slice_get (ops_at program (proc_of step)) (issued_by program words (proc_of step)) ≡ Some (op_of outcome)

pub following-complete : (program : ProgramValue) (addresses words : List ℕ) (s : State) (answered : ℕ → List Outcome) → HasPlaces program addresses → Represents program addresses words s answered →
    (step : Step) → proc_of step < list_count program → IsAllowed program.setting.order s step → IsOfNextOp program words step → IsFollowed program addresses words s answered step
following-complete program addresses words s answered places stands step small allowed of_next = by (outcome_of step) refl
  where
    each : ℕ → List (List ℕ)
    each p = cons_option (issued program addresses words p) (all_drained program addresses words p)

    by : (o : Option Outcome) → outcome_of step ≡ o → IsFollowed program addresses words s answered step
    by (Some outcome) answers =
        let p = proc_of step in
        let found = issue-complete program addresses places words s answered stands p small step (op_of outcome) outcome (and_then answered step) refl answers refl (of_next outcome answers)
        program.setting.order allowed (told_own answered step p outcome refl answers) (λ q other. told_other answered step p q refl other) in
        record {
          new = found.new;
          among = in-each each 0 (list_count program) p found.new (omega arith) (omega (arith, small)) (in-option-first (issued program addresses words p) (all_drained program addresses words p) found.new found.issued_to);
          left = found.left;
        }
    by None silent =
        let p = proc_of step in
        let found = drain-complete program addresses places words s answered stands p small step (and_then answered step) (told_none answered step silent) refl silent allowed in
        record {
          new = found.new;
          among =
              in-each each 0 (list_count program) p found.new (omega arith) (omega (arith, small))
              (in-option-later (issued program addresses words p) (all_drained program addresses words p) found.new
              (in-some (drained program addresses words p) 0 (length (ops_at program p)) found.i found.new (omega arith) (omega (arith, found.within)) found.drained_to));
          left = found.left;
        }

-- Lemmas on the check of evidence, step by step.
use Rattle.std.proofs.Common.{◌≡◌, ◌∙◌, inl, inr, sym, ap, subst, ℕ, ◌+◌, List, [], ◌∷◌, ◌++◌, length, take, Some, arith}
use Rattle.std.specs.Prelude.{slice_get}
use Rattle.std.proofs.lemmas.Bool.{cases_eq}
use Rattle.std.proofs.lemmas.List.{take_more}
use Rattle.std.proofs.lemmas.Option.{get_or_from_slice_get, same_Some, slice_get_within}
use Rattle.std.proofs.Math.Seq.{take-length}
use Rattle.tso_ops.specs.Values.{TraceValue}
use Rattle.value_evidence.specs.declared.steps.ValueStep.{ValueStep}
use Rattle.value_evidence.specs.declared.steps.ValueEvidence.{ValueEvidence}
use Rattle.value_evidence.specs.Evidence.{AllStepsHold, EvidenceHolds, ValueStepHolds}
use Rattle.value_evidence.specs.Refutations.{EndHoldsBeside}
use Rattle.value_evidence.proofs.RefutationFacts.{end_from, end_to}
use Rattle.value_check.specs.declared.known.Known.{Known}
use Rattle.value_check.specs.declared.refusals.ValueRefusal.{ValueRefusal}
use Rattle.value_check.specs.declared.refusals.ValueRefusal.TheVariants.{StepRefused, EndRefused}
use Rattle.value_check.specs.Internal.Known.{IsKnownBy}
use Rattle.value_check.specs.Refusals.{IsFirstRefusedStep, IsRefusalOfValues, StepsHoldBelow}

module _ (t : TraceValue) (steps : List ValueStep) (k : ℕ) (x : ValueStep) (at : slice_get steps k ≡ Some x) where
  -- the steps up to one, and that
  taken_next : take (k + 1) steps ≡ take k steps ++ x ∷ []
  taken_next = take_more steps k x (slice_get_within steps k x at) ∙ ap (λ y. take k steps ++ y ∷ []) (get_or_from_slice_get steps k x x at)

  -- what is known after one step more
  pub known_next : (new : Known) → IsKnownBy t (take k steps ++ x ∷ []) new → IsKnownBy t (take (k + 1) steps) new
  known_next new known = subst (λ all. IsKnownBy t all new) (sym taken_next) known

  -- one step more that holds
  pub holds_next : ValueStepHolds t (take k steps) x → StepsHoldBelow t steps k → StepsHoldBelow t steps (k + 1)
  holds_next here before j step below at_j =
      elim (cases_eq j k) [
        | inl same ↦
            let both : Some x ≡ Some step = sym at ∙ ap (slice_get steps) (sym same) ∙ at_j in
            subst (λ y. ValueStepHolds t (take j steps) y) (same_Some x step both) (subst (λ n. ValueStepHolds t (take n steps) x) (sym same) here)
        | inr other ↦ before j step (omega (arith, other, below)) at_j
      ]

  -- the first that doesn't
  pub first_refused : StepsHoldBelow t steps k → (ValueStepHolds t (take k steps) x → ⊥) → IsFirstRefusedStep t steps (k + 1)
  first_refused before fails = record { place = k; step = x; numbered = omega arith; there = at; before = before; refused = fails }

module _ (t : TraceValue) (evidence : ValueEvidence) (k : ℕ) (whole : k ≡ length evidence.steps.items) (holds : StepsHoldBelow t evidence.steps.items k) where
  -- all steps hold
  all_hold : AllStepsHold t evidence.steps.items
  all_hold j step at = let within = slice_get_within evidence.steps.items j step at in holds j step (omega (arith, within, whole)) at

  -- and those up to the last are all
  all_taken : take k evidence.steps.items ≡ evidence.steps.items
  all_taken = ap (λ n. take n evidence.steps.items) whole ∙ take-length evidence.steps.items

  -- evidence of which each step holds, and the end
  pub evidence_holds : EndHoldsBeside t (take k evidence.steps.items) [] evidence.end → EvidenceHolds t evidence
  evidence_holds ends = record { steps = all_hold; ends = end_from t evidence.steps.items evidence.end (subst (λ all. EndHoldsBeside t all [] evidence.end) all_taken ends) }

  -- or not the end
  pub end_refused : (EndHoldsBeside t (take k evidence.steps.items) [] evidence.end → ⊥) → IsRefusalOfValues t evidence EndRefused
  end_refused fails =
      (all_hold, λ ends. fails (subst (λ all. EndHoldsBeside t all [] evidence.end) (sym all_taken) (end_to t evidence.steps.items evidence.end ends)))

-- evidence that is refused doesn't hold
pub refused_fails : (t : TraceValue) (evidence : ValueEvidence) (refusal : ValueRefusal) → IsRefusalOfValues t evidence refusal → EvidenceHolds t evidence → ⊥
refused_fails t evidence (StepRefused number) is holds = is.refused (holds.steps is.place is.step is.there)
refused_fails t evidence EndRefused is holds = is.1 holds.ends

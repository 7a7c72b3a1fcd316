-- Why evidence is refused.
use Rattle.std.specs.Prelude.{◌≡◌, ℕ, suc, ◌<◌, List, take, Some, slice_get}
use Rattle.tso_ops.specs.Values.{TraceValue}
use Rattle.value_evidence.specs.declared.steps.ValueStep.{ValueStep}
use Rattle.value_evidence.specs.declared.steps.ValueEvidence.{ValueEvidence}
use Rattle.value_evidence.specs.Evidence.{AllStepsHold, EndHolds, ValueStepHolds}
use Rattle.value_check.specs.declared.refusals.ValueRefusal.{ValueRefusal}
use Rattle.value_check.specs.declared.refusals.ValueRefusal.TheVariants.{StepRefused, EndRefused}

-- each of the first k steps follows from those before it
abbrev pub StepsHoldBelow : TraceValue → List ValueStep → ℕ → Type 0
StepsHoldBelow t steps k = (j : ℕ) (step : ValueStep) → j < k → slice_get steps j ≡ Some step → ValueStepHolds t (take j steps) step

-- The step of this number, from 1, is the first that doesn't follow from those before it.
pub record IsFirstRefusedStep (t : TraceValue) (steps : List ValueStep) (number : ℕ) : Type 0 where
  pub place : ℕ
  pub step : ValueStep
  pub numbered : number ≡ suc place
  pub there : slice_get steps place ≡ Some step
  pub before : StepsHoldBelow t steps place
  pub refused : ValueStepHolds t (take place steps) step → ⊥

-- the evidence is refused for this: its first step that doesn't follow, or else its end
abbrev pub IsRefusalOfValues : TraceValue → ValueEvidence → ValueRefusal → Type 0
IsRefusalOfValues t evidence (StepRefused number) = IsFirstRefusedStep t evidence.steps.items number
IsRefusalOfValues t evidence EndRefused = AllStepsHold t evidence.steps.items × (EndHolds t evidence.steps.items evidence.end → ⊥)

-- What an answer of the checker shows.
use Rattle.std.specs.Prelude.{◌↔◌, ℕ, suc, Bool, IsTrue, List}
use Rattle.tso_ops.specs.Values.{TraceValue}
use Rattle.tso_ops.specs.Events.{IsLoad}
use Rattle.value_evidence.specs.declared.steps.ValueEnd.{ValueEnd}
use Rattle.value_evidence.specs.declared.steps.ValueStep.{ValueStep}
use Rattle.value_evidence.specs.Candidates.{CanRead}
use Rattle.value_evidence.specs.Evidence.{ValueStepHolds}
use Rattle.value_evidence.specs.Refutations.{EndHoldsBeside}
use Rattle.value_check.specs.declared.known.Known.{Known}
use Rattle.value_check.specs.declared.settling.Demand.{Demand}
use Rattle.value_check.specs.Internal.Known.{IsKnownBy}
use Rattle.value_check.specs.Internal.Settling.{Meets}

-- whether each number that the load can have read is as asked
abbrev pub ShowsAll : Known → ℕ → Demand → Bool → Type 0
ShowsAll k load wanted is =
    (t : TraceValue) (steps : List ValueStep) → IsKnownBy t steps k → IsLoad t (suc load) →
    IsTrue is ↔ ((r : ℕ) → CanRead t steps (suc load) r → Meets t steps (suc load) wanted r)

-- whether the step follows from the steps before it
abbrev pub ShowsStep : Known → ValueStep → Bool → Type 0
ShowsStep k step is = (t : TraceValue) (steps : List ValueStep) → IsKnownBy t steps k → IsTrue is ↔ ValueStepHolds t steps step

-- whether they leave no order beside what is set aside
abbrev pub ShowsEnd : Known → List (ℕ × ℕ) → ValueEnd → Bool → Type 0
ShowsEnd k aside end is = (t : TraceValue) (steps : List ValueStep) → IsKnownBy t steps k → IsTrue is ↔ EndHoldsBeside t steps aside end

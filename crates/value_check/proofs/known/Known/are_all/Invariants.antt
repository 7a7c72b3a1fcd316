use Rattle.std.proofs.Common.{◌<◌, ℕ, suc, List, slice_index}
use Rattle.tso_ops.specs.Events.{IsLoad}
use Rattle.tso_ops.specs.Values.{TraceValue}
use Rattle.value_evidence.specs.declared.steps.ValueStep.{ValueStep}
use Rattle.value_check.specs.Internal.Known.{IsKnownBy}
use Rattle.value_check.specs.Internal.Settling.{AreSeen, SettlesIn}
use Rattle.value_check.proofs.known.Known.are_all.Given as goal

-- the stores of the cells so far are settled
abbrev pub invariant-loop-cell : goal.invariant-loop-cell
invariant-loop-cell l =
    (t : TraceValue) (steps : List ValueStep) → IsKnownBy t steps l.self → AreSeen t steps l.question → IsLoad t (suc l.question.load) →
    (k : ℕ) → k < l.cell-index → SettlesIn t steps l.self l.question (slice_index l.cell-items k)

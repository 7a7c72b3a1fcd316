use Rattle.std.proofs.Common.{◌<◌, ◌≤◌, ℕ, List, slice_index}
use Rattle.tso_ops.specs.Values.{TraceValue}
use Rattle.value_evidence.specs.declared.steps.ValueStep.{ValueStep}
use Rattle.value_check.specs.Internal.Known.{IsKnownBy}
use Rattle.value_check.specs.Internal.Settling.{AreSeen, AreSources, Settles}
use Rattle.value_check.proofs.known.Known.are_settled.Given as goal

-- those looked at so far are settled
abbrev pub invariant-loop-i : goal.invariant-loop-i
invariant-loop-i l =
    (t : TraceValue) (steps : List ValueStep) → IsKnownBy t steps l.self → AreSeen t steps l.question → AreSources t l.question.load l.stores →
    (k : ℕ) → l.low ≤ k → k < l.i → Settles t steps l.question (slice_index l.stores k)

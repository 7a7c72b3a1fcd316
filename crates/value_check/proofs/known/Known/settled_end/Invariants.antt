use Rattle.std.proofs.Common.{◌<◌, ◌≤◌, ◌-◌, ℕ, List, length, slice_index}
use Rattle.tso_ops.specs.Values.{TraceValue}
use Rattle.value_evidence.specs.declared.steps.ValueStep.{ValueStep}
use Rattle.value_check.specs.Internal.Known.{IsKnownBy}
use Rattle.value_check.specs.Internal.Settling.{AreInOrder, AreSeen, Settles}
use Rattle.value_check.proofs.known.Known.settled_end.Given as goal

abbrev pub decreases-loop-low : goal.decreases-loop-low
decreases-loop-low l = l.high - l.low

-- those up to here are settled
abbrev pub invariant-loop-low : goal.invariant-loop-low
invariant-loop-low l =
    (l.low ≤ l.high) × (l.high ≤ length l.stores)
    × ((t : TraceValue) (steps : List ValueStep) → IsKnownBy t steps l.self → AreSeen t steps l.question → AreInOrder t l.stores →
    (i : ℕ) → i < l.low → Settles t steps l.question (slice_index l.stores i))

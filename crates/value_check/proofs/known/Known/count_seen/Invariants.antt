use Rattle.std.proofs.Common.{◌-◌, ◌≤◌, ◌<◌, ℕ, suc, List, length, slice_index}
use Rattle.tso_ops.specs.Values.{TraceValue}
use Rattle.value_evidence.specs.declared.steps.ValueStep.{ValueStep}
use Rattle.value_evidence.specs.Candidates.{SeesStore}
use Rattle.value_check.specs.Internal.Known.{IsKnownBy}
use Rattle.value_check.specs.Internal.Settling.{AreSeenFirst}
use Rattle.value_check.proofs.known.Known.count_seen.Given as goal

-- the load sees those below the one end, and none from the other on
abbrev pub invariant-loop-low : goal.invariant-loop-low
invariant-loop-low l =
    (l.low ≤ l.high) × (l.high ≤ length l.stores)
    × ((t : TraceValue) (steps : List ValueStep) → IsKnownBy t steps l.self → AreSeenFirst t steps l.load l.stores →
    ((k : ℕ) → k < l.low → SeesStore t steps (suc l.load) (suc (slice_index l.stores k)))
    × ((k : ℕ) → l.high ≤ k → k < length l.stores → SeesStore t steps (suc l.load) (suc (slice_index l.stores k)) → ⊥))

abbrev pub decreases-loop-low : goal.decreases-loop-low
decreases-loop-low l = l.high - l.low

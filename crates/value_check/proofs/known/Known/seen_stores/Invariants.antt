use Rattle.std.proofs.Common.{◌<◌, ℕ, suc, List, slice_index}
use Rattle.std.specs.List.{Contains}
use Rattle.tso_ops.specs.Values.{TraceValue}
use Rattle.tso_ops.specs.Events.{IsLoad}
use Rattle.value_evidence.specs.declared.steps.ValueStep.{ValueStep}
use Rattle.value_evidence.specs.Candidates.{SeesStore}
use Rattle.value_check.specs.Internal.Known.{IsKnownBy}
use Rattle.value_check.specs.Internal.Settling.{IsLastOfCell}
use Rattle.value_check.proofs.known.Known.seen_stores.Given as goal

-- the load sees those found so far, and of the cells so far they are the last
abbrev pub invariant-loop-cell : goal.invariant-loop-cell
invariant-loop-cell l = (t : TraceValue) (steps : List ValueStep) → IsKnownBy t steps l.self → IsLoad t (suc l.load) →
    ((w : ℕ) → Contains l.seen.items w → SeesStore t steps (suc l.load) (suc w))
    × ((k : ℕ) → k < l.cell-index → IsLastOfCell t steps l.self l.load (slice_index l.cell-items k) l.seen.items)

use Rattle.std.proofs.Common.{◌≡◌, false}
use Rattle.acyclic_traces.specs.Internal.Pairs.{IsClosedForSwap}
use Rattle.acyclic_traces.proofs.PairFacts.{Looked}
use Rattle.acyclic_traces.proofs.swaps.add_by_swaps.Given as goal

-- where nothing was added the pairs have what the loads give that aren't left
abbrev pub invariant-loop-left : goal.invariant-loop-left
invariant-loop-left l = l.added ≡ false → (l.pairs ≡ l.fn.pairs) × Looked l.initial.left l.left (IsClosedForSwap l.trace l.fn.pairs)

abbrev pub decreases-loop-left : goal.decreases-loop-left
decreases-loop-left l = l.left

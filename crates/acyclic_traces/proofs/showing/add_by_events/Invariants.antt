use Rattle.std.proofs.Common.{◌≡◌, ℕ, ◌<◌, false}
use Rattle.acyclic_traces.specs.Internal.Pairs.{IsClosedForReads}
use Rattle.acyclic_traces.proofs.showing.add_by_events.Given as goal

-- where nothing was added the pairs have what the numbers passed give
abbrev pub invariant-loop-l : goal.invariant-loop-l
invariant-loop-l l = l.added ≡ false → (l.pairs ≡ l.fn.pairs) × ((n : ℕ) → n < l.l → IsClosedForReads l.trace l.fn.pairs n)

use Rattle.round_pool.specs.Internal.EdgeLists.{IsDifferenceFrom}
use Rattle.round_pool.proofs.ranked.difference.Given as goal

-- the edges from the numbers passed are added
abbrev pub invariant-loop-u : goal.invariant-loop-u
invariant-loop-u l = IsDifferenceFrom l.last l.later l.u l.graph

use Rattle.std.proofs.Common.{map}
use Rattle.round_pool.specs.Internal.EdgeLists.{IsGraphOf}
use Rattle.round_pool.proofs.ranked.graph_of.Given as goal

-- the edges of the lists passed are added
abbrev pub invariant-loop-k : goal.invariant-loop-k
invariant-loop-k l = IsGraphOf l.nodes (map (λ edges. edges.items) l.added) l.first l.k l.graph

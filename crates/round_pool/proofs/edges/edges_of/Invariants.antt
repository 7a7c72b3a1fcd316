use Rattle.tso_ops.specs.Values.{rows}
use Rattle.round_pool.specs.Internal.EdgeLists.{AreEdgesOf}
use Rattle.round_pool.proofs.edges.edges_of.Given as goal

-- the edges of the rows passed are listed
abbrev pub invariant-loop-i : goal.invariant-loop-i
invariant-loop-i l = AreEdgesOf l.numbers (rows l.made) l.i l.edges.items

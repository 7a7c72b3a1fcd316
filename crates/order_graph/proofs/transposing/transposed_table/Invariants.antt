use Rattle.std.proofs.Common.{min, ◌*◌}
use Rattle.order_graph.proofs.TransposedBlocks.{TransposesBefore}
use Rattle.order_graph.proofs.transposing.transposed_table.Given as goal

abbrev pub invariant-loop-k : goal.invariant-loop-k
invariant-loop-k l = TransposesBefore l.table.words.now l.transposed.items l.table.width l.nodes (min (l.k * 8) l.table.width)

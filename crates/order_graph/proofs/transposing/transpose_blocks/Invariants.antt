use Rattle.bitsets.specs.Tables.{Adds}
use Rattle.order_graph.proofs.TransposedBlocks.{BlocksBefore}
use Rattle.order_graph.proofs.transposing.transpose_blocks.Given as goal

abbrev pub invariant-loop-j : goal.invariant-loop-j
invariant-loop-j l = Adds l.initial.transposed l.transposed l.table.width (BlocksBefore l.table.words.now l.table.width l.nodes l.i l.first l.j)

use Rattle.order_graph.proofs.TransposedBlocks.{TransposesBlock}
use Rattle.order_graph.proofs.transposing.transpose_block.Given as goal

abbrev pub invariant-loop-x : goal.invariant-loop-x
invariant-loop-x l = TransposesBlock l.initial.transposed l.transposed l.table.words.now l.table.width l.nodes l.i l.j l.x l.word l.rows

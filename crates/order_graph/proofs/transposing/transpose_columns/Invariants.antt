use Rattle.bitsets.specs.Tables.{Adds}
use Rattle.order_graph.proofs.TransposedBlocks.{ColumnsBefore}
use Rattle.order_graph.proofs.transposing.transpose_columns.Given as goal

abbrev pub invariant-loop-i : goal.invariant-loop-i
invariant-loop-i l = Adds l.initial.transposed l.transposed l.table.width (ColumnsBefore l.table.words.now l.table.width l.nodes l.first l.end l.i)

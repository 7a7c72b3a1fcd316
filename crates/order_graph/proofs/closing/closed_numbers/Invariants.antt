use Rattle.order_graph.proofs.ClosedNumbers.{Notes}
use Rattle.order_graph.proofs.closing.closed_numbers.Given as goal

abbrev pub invariant-loop-x : goal.invariant-loop-x
invariant-loop-x l = Notes l.tables.edges.now l.tables.transposed.now l.row.items l.upto.items l.tables.width l.x

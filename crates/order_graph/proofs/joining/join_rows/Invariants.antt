use Rattle.order_graph.proofs.AddedBits.{Widens}
use Rattle.order_graph.proofs.joining.join_rows.Given as goal

abbrev pub invariant-loop-j : goal.invariant-loop-j
invariant-loop-j l = Widens l.initial.table l.table l.transposed l.size.width l.size.nodes l.i l.rows l.v l.j

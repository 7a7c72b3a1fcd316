use Rattle.order_graph.proofs.AddedBits.{Joins}
use Rattle.order_graph.proofs.joining.join.Given as goal

abbrev pub invariant-loop-i : goal.invariant-loop-i
invariant-loop-i l = Joins l.initial.table l.table l.transposed l.size.width l.size.nodes l.u l.v l.i

use Rattle.order_graph.proofs.Reached.{Reaching, not_done}
use Rattle.order_graph.proofs.forward.reached_row.Given as goal

abbrev pub invariant-numbers : goal.invariant-numbers
invariant-numbers l = Reaching l.edges.words.now l.mask l.reached.items l.left.items l.edges.width l.nodes l.u

abbrev pub decreases-numbers : goal.decreases-numbers
decreases-numbers l = not_done l.reached.items l.left.items l.edges.width l.nodes

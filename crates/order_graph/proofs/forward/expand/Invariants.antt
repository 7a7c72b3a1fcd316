use Rattle.order_graph.proofs.Reached.{GoesOn}
use Rattle.order_graph.proofs.forward.expand.Given as goal

abbrev pub invariant-loop-j : goal.invariant-loop-j
invariant-loop-j l = GoesOn l.edges.words.now l.mask l.initial.reached l.reached l.initial.left l.left l.edges.width l.x l.j

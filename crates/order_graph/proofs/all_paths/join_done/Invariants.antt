use Rattle.order_graph.proofs.AllPaths.{JoinsDone}
use Rattle.order_graph.proofs.all_paths.join_done.Given as goal

abbrev pub invariant-loop-left : goal.invariant-loop-left
invariant-loop-left l = JoinsDone l.nodes l.edges.width l.edges.words.now l.paths l.done l.x l.j l.left

abbrev pub decreases-loop-left : goal.decreases-loop-left
decreases-loop-left l = l.left

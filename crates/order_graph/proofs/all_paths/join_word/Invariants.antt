use Rattle.order_graph.proofs.AllPaths.{Joining}
use Rattle.order_graph.proofs.all_paths.join_word.Given as goal

abbrev pub invariant-loop-left : goal.invariant-loop-left
invariant-loop-left l = Joining l.nodes l.edges.width l.edges.words.now l.initial.paths l.paths l.transposed l.x l.j l.left

abbrev pub decreases-loop-left : goal.decreases-loop-left
decreases-loop-left l = l.left

use Rattle.order_graph.specs.Internal.KeptPaths.{KeepsPathsToDone}
use Rattle.order_graph.proofs.all_paths.finish.Given as goal

abbrev pub invariant-loop-j : goal.invariant-loop-j
invariant-loop-j l = KeepsPathsToDone l.nodes l.edges.width l.edges.words.now l.paths l.done

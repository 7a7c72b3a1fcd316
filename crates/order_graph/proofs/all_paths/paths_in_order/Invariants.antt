use Rattle.std.proofs.Common.{◌≡◌, length}
use Rattle.order_graph.specs.Internal.KeptPaths.{KeepsPathsToDone}
use Rattle.order_graph.proofs.all_paths.paths_in_order.Given as goal

abbrev pub invariant-loop-x : goal.invariant-loop-x
invariant-loop-x l = (length l.done.items ≡ l.edges.width) × KeepsPathsToDone l.nodes l.edges.width l.edges.words.now l.paths.items l.done.items

use Rattle.std.proofs.Common.{arith}
use Rattle.order_graph.proofs.AllPaths.{KeepsPathsToDone-empty}
use Rattle.order_graph.proofs.all_paths.paths_in_order.Goals as goal

pub loop-x-init : goal.loop-x-init
loop-x-init c =
    let a = c.args in (
      omega (arith, c.in_ok-done.ensures.len),
      KeepsPathsToDone-empty a.nodes a.edges.width a.edges.words.now c.in_ok-paths.paths.items c.in_ok-done.done.items (c.in_ok-paths.ensures.items_if_clones_equal (λ y e. e)),
    )

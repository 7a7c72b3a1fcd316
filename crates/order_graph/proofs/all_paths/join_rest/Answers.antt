use Rattle.std.proofs.Common.{arith}
use Rattle.order_graph.proofs.AllPaths.{KeepsAllPaths-all}
use Rattle.order_graph.proofs.all_paths.join_rest.Goals as goal

pub returns : goal.returns
returns c =
    let a = c.args in
    KeepsAllPaths-all a.nodes a.edges.width a.edges.words.now c.loop-x.paths c.loop-x.transposed c.requires.edges c.loop-x.invariant.0 c.loop-x.invariant.1
    (λ x y hx hy s. c.loop-x.invariant.2 x y (omega (arith, hx)) hy s)

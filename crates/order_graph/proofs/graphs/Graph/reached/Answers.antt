use Rattle.std.proofs.Common.{arith}
use Rattle.order_graph.proofs.KeptTablesFacts.{sees_nodes}
use Rattle.order_graph.proofs.Reached.{tests_are_paths}
use Rattle.order_graph.proofs.graphs.Graph.reached.Goals as goal

pub returns-clause-path : goal.returns-clause-path
returns-clause-path c =
    let g = c.self.inside in
    let n = sees_nodes c.args.self.now g.tables.nodes g.tables.width g.tables.edges.items (record { grown = _; is = c.self.view_is }) in
    let tells = rw (c.path_table.ensures.words, c.path_table.ensures.width) at c.in_ok-tests.ensures.tests in
    tests_are_paths c.args.self.now g.tables.nodes g.tables.width c.args.u g.tables.edges.items g.tables.paths.items c.in_ok-tests.tests.items c.args.u (record { grown = _; is = c.self.view_is })
    (λ y h. c.self.invariant.0.tells c.args.u y (omega arith) h) tells

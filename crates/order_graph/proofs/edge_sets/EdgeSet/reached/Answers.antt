use Rattle.std.proofs.Common.{arith}
use Rattle.bitsets.proofs.TableFacts.{column_within}
use Rattle.order_graph.proofs.KeptTablesFacts.{sees_nodes}
use Rattle.order_graph.proofs.Reached.{tests_are_paths, masked_from}
use Rattle.order_graph.proofs.edge_sets.EdgeSet.reached.Goals as goal

pub returns-clause-path : goal.returns-clause-path
returns-clause-path c =
    let g = c.self.inside in
    let n = sees_nodes c.args.self.now g.tables.nodes g.tables.width g.tables.edges.items (record { grown = _; is = c.self.view_is }) in
    let has = rw (c.path_table.ensures.words, c.path_table.ensures.width) at c.in_ok-mask.ensures.bits in
    let reached = rw (c.edge_table.ensures.words, c.edge_table.ensures.width, c.deref.ensures.value) at c.in_ok-row.ensures in
    let tells = rw c.deref-2.ensures.value at c.in_ok-tests.ensures.tests in
    let masked = masked_from g.tables.edges.items g.tables.paths.items g.tables.transposed.items c.in_ok-mask.mask.items g.tables.width g.tables.nodes c.args.u c.self.invariant (omega arith) has in
    tests_are_paths c.args.self.now g.tables.nodes g.tables.width 0 g.tables.edges.items c.in_ok-row.row.items c.in_ok-tests.tests.items c.args.u (record { grown = _; is = c.self.view_is })
    (λ y h.
    let r = reached.1 y (column_within y g.tables.nodes g.tables.width c.self.invariant.fits h) in
    (λ s. (masked y).0 (r.0 s), λ p. r.1 ((masked y).1 p))) tells

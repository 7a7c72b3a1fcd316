use Rattle.std.proofs.Common.{refl, arith}
use Rattle.std.proofs.lemmas.Bool.{both_ways, false≢true}
use Rattle.order_paths.proofs.Reach.{Reaches-edge}
use Rattle.order_graph.specs.Internal.Tables.{Joined}
use Rattle.order_graph.proofs.KeptTablesFacts.{sees_nodes, sees_path}
use Rattle.order_graph.proofs.edge_sets.EdgeSet.reaches.Goals as goal

pub returns-then-has_edge : goal.returns-then-has_edge
returns-then-has_edge c =
    let g = c.self.inside in
    let n = sees_nodes c.args.self.now g.tables.nodes g.tables.width g.tables.edges.items (record { grown = _; is = c.self.view_is }) in
    let path = sees_path c.args.self.now g.tables.nodes g.tables.width g.tables.edges.items (record { grown = _; is = c.self.view_is }) c.args.u c.args.v in (
      λ t. path.1 (Reaches-edge (Joined g.tables.edges.items g.tables.width g.tables.nodes) c.args.u c.args.v (omega arith, omega arith, c.has_edge.ensures.0 c.if-has_edge.true)),
      λ p. refl,
    )

pub returns-then-not-has_path_back : goal.returns-then-not-has_path_back
returns-then-not-has_path_back c =
    let g = c.self.inside in
    let n = sees_nodes c.args.self.now g.tables.nodes g.tables.width g.tables.edges.items (record { grown = _; is = c.self.view_is }) in
    let path = sees_path c.args.self.now g.tables.nodes g.tables.width g.tables.edges.items (record { grown = _; is = c.self.view_is }) c.args.u c.args.v in (
      λ t. absurd (false≢true t),
      λ p. absurd (both_ways c.has_path_back.result c.if-not-has_path_back.true (c.has_path_back.ensures.1 (c.self.invariant.back c.args.u c.args.v (omega arith) (omega arith) (path.0 p)))),
    )

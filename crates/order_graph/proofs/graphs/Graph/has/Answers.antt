use Rattle.std.proofs.Common.{arith}
use Rattle.order_graph.proofs.KeptTablesFacts.{sees_edge, sees_nodes}
use Rattle.order_graph.proofs.graphs.Graph.has.Goals as goal

pub returns : goal.returns
returns c =
    let g = c.self.inside in
    let n = sees_nodes c.args.self.now g.tables.nodes g.tables.width g.tables.edges.items (record { grown = _; is = c.self.view_is }) in
    let edge = sees_edge c.args.self.now g.tables.nodes g.tables.width g.tables.edges.items (record { grown = _; is = c.self.view_is }) c.args.u c.args.v in
    let bit = c.has_edge.ensures in
    (λ t. edge.1 (omega arith, omega arith, bit.0 t), λ e. bit.1 (edge.0 e).2)

use Rattle.std.proofs.Common.{arith}
use Rattle.order_graph.proofs.KeptTablesFacts.{sees_edge, sees_nodes}
use Rattle.order_graph.proofs.edge_rows.EdgeRows.has.Goals as goal

pub returns : goal.returns
returns c =
    let g = c.self.inside in
    let n = sees_nodes c.args.self.now g.nodes g.width g.words.items (record { grown = _; is = c.self.view_is }) in
    let edge = sees_edge c.args.self.now g.nodes g.width g.words.items (record { grown = _; is = c.self.view_is }) c.args.u c.args.v in
    let set = rw c.deref.ensures.value at c.bit.ensures in
    (λ t. edge.1 (omega arith, omega arith, set.0 t), λ e. set.1 (edge.0 e).2)

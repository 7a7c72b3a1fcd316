use Rattle.std.proofs.Common.{arith}
use Rattle.order_graph.proofs.KeptTablesFacts.{sees_nodes}
use Rattle.order_graph.proofs.GrownFacts.{sees_grown}
use Rattle.order_graph.proofs.graphs.Graph.grew.Goals as goal

pub returns : goal.returns
returns c =
    let g = c.self.inside in
    let n = sees_nodes c.args.self.now g.tables.nodes g.tables.width g.tables.edges.items (record { grown = _; is = c.self.view_is }) in
    let tells = sees_grown c.args.self.now g.tables.nodes g.tables.width g.tables.edges.items g.grown.items c.self.view_is c.args.u in
    let set = rw c.deref.ensures.value at c.bit.ensures in
    (λ t. tells.1 (omega arith, set.0 t), λ h. set.1 (tells.0 h).1)

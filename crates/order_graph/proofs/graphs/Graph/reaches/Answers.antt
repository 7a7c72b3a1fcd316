use Rattle.std.proofs.Common.{arith}
use Rattle.order_graph.proofs.KeptTablesFacts.{sees_path, sees_decided, sees_nodes}
use Rattle.order_graph.proofs.graphs.Graph.reaches.Goals as goal

pub returns-clause-path : goal.returns-clause-path
returns-clause-path c =
    let g = c.self.inside in
    let n = sees_nodes c.args.self.now g.tables.nodes g.tables.width g.tables.edges.items (record { grown = _; is = c.self.view_is }) in
    let path = sees_path c.args.self.now g.tables.nodes g.tables.width g.tables.edges.items (record { grown = _; is = c.self.view_is }) c.args.u c.args.v in
    let bit = c.has_path.ensures in
    let tells = c.self.invariant.0.tells c.args.u c.args.v (omega arith) (omega arith) in
    (λ t. path.1 (tells.0 (bit.0 t)), λ p. bit.1 (tells.1 (path.0 p)))

pub returns-clause-decided : goal.returns-clause-decided
returns-clause-decided c = λ x y. sees_decided c.args.self.now c.self.inside.tables.nodes c.self.inside.tables.width c.self.inside.tables.edges.items (record { grown = _; is = c.self.view_is }) x y

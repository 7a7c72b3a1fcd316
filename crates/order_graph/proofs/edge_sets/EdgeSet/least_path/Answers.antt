use Rattle.order_graph.specs.Internal.Tables.{Joined}
use Rattle.order_graph.specs.Digraphs.{IsEdge}
use Rattle.order_graph.proofs.KeptTablesFacts.{sees_edge, sees_path}
use Rattle.order_graph.proofs.CyclesFacts.{IsLeastPath-same}
use Rattle.order_graph.proofs.edge_sets.EdgeSet.least_path.Goals as goal

pub least_path-requires-clause-path : goal.least_path-requires-clause-path
least_path-requires-clause-path c =
    let g = c.self.inside in
    (sees_path c.args.self.now g.tables.nodes g.tables.width g.tables.edges.items (record { grown = _; is = c.self.view_is }) c.args.u c.args.v).0 (c.in_ok-reaches.ensures.0 c.if-not-branch.false)

pub returns : goal.returns
returns c =
    let g = c.self.inside in
    IsLeastPath-same (Joined g.tables.edges.items g.tables.width g.tables.nodes) (IsEdge c.args.self.now) c.args.u c.args.v c.in_ok-path.path.items
    (sees_edge c.args.self.now g.tables.nodes g.tables.width g.tables.edges.items (record { grown = _; is = c.self.view_is })) c.in_ok-path.ensures

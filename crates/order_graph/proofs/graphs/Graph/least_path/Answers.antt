use Rattle.std.proofs.Common.{arith}
use Rattle.std.proofs.lemmas.Bool.{both_ways}
use Rattle.order_graph.specs.Internal.Tables.{Joined}
use Rattle.order_graph.specs.Digraphs.{IsEdge}
use Rattle.order_graph.proofs.KeptTablesFacts.{sees_nodes, sees_edge, sees_path}
use Rattle.order_graph.proofs.CyclesFacts.{IsLeastPath-same}
use Rattle.order_graph.proofs.SearchesFacts.{KeepsAllPaths-covers}
use Rattle.order_graph.proofs.graphs.Graph.least_path.Goals as goal

pub returns-then-not-has_path : goal.returns-then-not-has_path
returns-then-not-has_path c =
    let g = c.self.inside in
    let n = sees_nodes c.args.self.now g.tables.nodes g.tables.width g.tables.edges.items (record { grown = _; is = c.self.view_is }) in
    let path = sees_path c.args.self.now g.tables.nodes g.tables.width g.tables.edges.items (record { grown = _; is = c.self.view_is }) c.args.u c.args.v in
    λ p. both_ways c.has_path.result c.if-not-has_path.true (c.has_path.ensures.1 ((c.self.invariant.0.tells c.args.u c.args.v (omega arith) (omega arith)).1 (path.0 p)))

pub least_path-requires-clause-covers : goal.least_path-requires-clause-covers
least_path-requires-clause-covers c =
    let g = c.self.inside in
    KeepsAllPaths-covers g.tables.nodes g.tables.width g.tables.edges.items g.tables.paths.items g.tables.transposed.items c.self.invariant.0

pub returns : goal.returns
returns c =
    let g = c.self.inside in
    IsLeastPath-same (Joined g.tables.edges.items g.tables.width g.tables.nodes) (IsEdge c.args.self.now) c.args.u c.args.v c.in_ok-path.path.items
    (sees_edge c.args.self.now g.tables.nodes g.tables.width g.tables.edges.items (record { grown = _; is = c.self.view_is })) c.in_ok-path.ensures

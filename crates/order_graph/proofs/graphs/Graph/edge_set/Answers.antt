use Rattle.std.proofs.Common.{sym, ◌∙◌}
use Rattle.order_graph.proofs.KeptTablesFacts.{Sees, sees_edge, sees_nodes}
use Rattle.order_graph.proofs.SearchesFacts.{KeepsAllPaths-covers}
use Rattle.order_graph.proofs.graphs.Graph.edge_set.Goals as goal

pub of_tables-requires : goal.of_tables-requires
of_tables-requires c =
    let g = c.self.inside in
    rw (c.read.ensures.nodes, c.read.ensures.width, c.read.ensures.edges, c.read.ensures.paths, c.read.ensures.transposed) (KeepsAllPaths-covers g.tables.nodes g.tables.width g.tables.edges.items g.tables.paths.items g.tables.transposed.items c.self.invariant.0)

pub returns : goal.returns
returns c =
    let g = c.self.inside in
    let t = c.read.result in
    let is = rw (c.read.ensures.nodes, c.read.ensures.width, c.read.ensures.edges) at c.in_ok-set.ensures in
    let seen : Sees c.in_ok-set.set g.tables.nodes g.tables.width g.tables.edges.items = record { grown = _; is = is } in
    let own : Sees c.args.self.now g.tables.nodes g.tables.width g.tables.edges.items = record { grown = _; is = c.self.view_is } in (
      sees_nodes _ _ _ _ seen ∙ sym (sees_nodes _ _ _ _ own),
      λ x y. let a = sees_edge _ _ _ _ seen x y in let b = sees_edge _ _ _ _ own x y in (λ e. b.1 (a.0 e), λ e. a.1 (b.0 e)),
    )

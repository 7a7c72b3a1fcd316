use Rattle.std.proofs.Common.{◌+◌, ◌-◌, ◌*◌, ◌↔◌, take, drop, subst, sym, arith}
use Rattle.bitsets.specs.Rows.{HasNumber}
use Rattle.order_paths.specs.Paths.{Reaches}
use Rattle.order_graph.specs.Internal.Tables.{Joined}
use Rattle.std.proofs.lemmas.List.{length-take, length-drop}
use Rattle.bitsets.proofs.TableFacts.{row_within}
use Rattle.order_graph.proofs.KeptTablesFacts.{sees_nodes, sees_path, row_paths}
use Rattle.order_graph.proofs.graphs.Graph.path_words.Goals as goal

pub returns-clause-paths : goal.returns-clause-paths
returns-clause-paths c =
    let g = c.self.inside in
    let n = sees_nodes c.args.self.now g.tables.nodes g.tables.width g.tables.edges.items (record { grown = _; is = c.self.view_is }) in
    let count = c.args.u * g.tables.width + g.tables.width - c.args.u * g.tables.width in
    λ v. let path = sees_path c.args.self.now g.tables.nodes g.tables.width g.tables.edges.items (record { grown = _; is = c.self.view_is }) c.args.u v in
    let row = row_paths g.tables.nodes g.tables.width g.tables.edges.items g.tables.paths.items g.tables.transposed.items c.self.invariant.0 count c.args.u v (omega arith) (omega arith) in
    let same : HasNumber (take count (drop (c.args.u * g.tables.width) c.deref.result.now)) v ↔ Reaches (Joined g.tables.edges.items g.tables.width g.tables.nodes) c.args.u v =
    subst (λ t. HasNumber (take count (drop (c.args.u * g.tables.width) t)) v ↔ Reaches (Joined g.tables.edges.items g.tables.width g.tables.nodes) c.args.u v) (sym c.deref.ensures.value) row in
    (λ b. path.1 (same.0 b), λ p. same.1 (path.0 p))

pub returns-clause-size : goal.returns-clause-size
returns-clause-size c =
    let g = c.self.inside in
    let n = sees_nodes c.args.self.now g.tables.nodes g.tables.width g.tables.edges.items (record { grown = _; is = c.self.view_is }) in
    let count = c.args.u * g.tables.width + g.tables.width - c.args.u * g.tables.width in
    let l = length-take count (drop (c.args.u * g.tables.width) c.deref.result.now) in
    let d = length-drop (c.args.u * g.tables.width) c.deref.result.now in
    let row = row_within c.args.u g.tables.nodes g.tables.width (omega arith) in
    omega (arith, c.self.invariant.0.fits, c.self.invariant.0.paths_transposed.table_sized, c.deref.ensures.len)

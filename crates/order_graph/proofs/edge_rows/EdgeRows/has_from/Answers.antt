use Rattle.std.proofs.Common.{◌↔◌, ℕ, IsTrue, sym, subst, arith}
use Rattle.order_graph.specs.Digraphs.{IsEdge}
use Rattle.order_graph.proofs.KeptTablesFacts.{sees_nodes}
use Rattle.order_graph.proofs.CyclesFacts.{row_edge}
use Rattle.order_graph.proofs.edge_rows.EdgeRows.has_from.Goals as goal

pub returns : goal.returns
returns c =
    let g = c.self.inside in
    let n = sees_nodes c.args.self.now g.nodes g.width g.words.items (record { grown = _; is = c.self.view_is }) in
    let shared = rw c.deref.ensures.value at c.first_shared.ensures in
    subst (λ b. IsTrue b ↔ ((v : ℕ) × IsEdge c.args.self.now c.args.u v)) (sym c.is_some.ensures)
    (row_edge c.args.self.now g.nodes g.width g.words.items c.args.u c.first_shared.result (record { grown = _; is = c.self.view_is }) c.self.invariant.fits c.self.invariant.within (omega arith) shared)

use Rattle.std.proofs.Common.{refl, arith}
use Rattle.std.proofs.lemmas.List.{take_at}
use Rattle.order_graph.proofs.KeptTablesFacts.{sees_nodes}
use Rattle.order_graph.proofs.Rows.{IsTable-more, sees_words}
use Rattle.order_graph.proofs.edge_rows.EdgeRows.add_row.Goals as goal

pub invariant_of-self : goal.invariant_of-self
invariant_of-self c =
    let g = c.self.inside in
    let n = sees_nodes c.args.self.now g.nodes g.width g.words.items (record { grown = _; is = c.self.view_is }) in
    let adds = rw c.deref_mut.ensures.value at c.add_words.ensures in
    IsTable-more g.nodes g.width g.words.items c.add_words.new.table _ _ c.self.invariant
    (take_at _ _ _ (omega arith)) (omega arith) (λ x v g. omega (arith, c.requires.to v g.1)) adds

pub returns-clause-edges : goal.returns-clause-edges
returns-clause-edges c = λ x y.
    let g = c.self.inside in
    let n = sees_nodes c.args.self.now g.nodes g.width g.words.items (record { grown = _; is = c.self.view_is }) in
    let adds = rw c.deref_mut.ensures.value at c.add_words.ensures in
    rw (take_at c.add_words.new.table _ g.words.len (omega arith)) (sees_words c.args.self.now _ g.nodes g.width g.words.items c.add_words.new.table c.args.row.now c.args.u
    (record { grown = _; is = c.self.view_is }) (record { grown = _; is = refl }) c.self.invariant.fits (omega arith) (λ v h. omega (arith, c.requires.to v h)) adds x y)

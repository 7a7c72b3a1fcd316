use Rattle.std.proofs.Common.{refl, arith}
use Rattle.std.proofs.lemmas.List.{take_at}
use Rattle.order_graph.proofs.KeptTablesFacts.{sees_more, sees_nodes}
use Rattle.order_graph.proofs.Rows.{IsTable-more}
use Rattle.order_graph.proofs.edge_rows.EdgeRows.add.Goals as goal

pub invariant_of-self : goal.invariant_of-self
invariant_of-self c =
    let g = c.self.inside in
    let n = sees_nodes c.args.self.now g.nodes g.width g.words.items (record { grown = _; is = c.self.view_is }) in
    let adds = rw c.deref_mut.ensures.value at c.set_bit.ensures in
    IsTable-more g.nodes g.width g.words.items c.set_bit.new.table _ _ c.self.invariant
    (take_at _ _ _ (omega arith)) (omega arith) (λ x y p. omega (arith, p.1)) adds

pub returns-clause-edges : goal.returns-clause-edges
returns-clause-edges c = λ x y.
    let g = c.self.inside in
    let n = sees_nodes c.args.self.now g.nodes g.width g.words.items (record { grown = _; is = c.self.view_is }) in
    let adds = rw c.deref_mut.ensures.value at c.set_bit.ensures in
    rw (take_at c.set_bit.new.table _ g.words.len (omega arith)) (sees_more c.args.self.now _ g.nodes g.width g.words.items c.set_bit.new.table c.args.u c.args.v
    (record { grown = _; is = c.self.view_is }) (record { grown = _; is = refl }) c.self.invariant.fits (omega arith) (omega arith) adds x y)

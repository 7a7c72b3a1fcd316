use Rattle.std.proofs.Common.{refl, arith}
use Rattle.std.proofs.lemmas.List.{take_at}
use Rattle.order_graph.proofs.EdgeSetsFacts.{Covers-less, sees_less}
use Rattle.order_graph.proofs.edge_sets.EdgeSet.remove.Goals as goal

pub invariant_of-self : goal.invariant_of-self
invariant_of-self c =
    let g = c.self.inside in
    let loses = rw c.deref_mut.ensures.value at c.clear_bit.ensures in
    Covers-less g.tables.nodes g.tables.width g.tables.edges.items c.clear_bit.new.table _ g.tables.paths.items g.tables.transposed.items c.args.u c.args.v c.self.invariant
    (take_at _ _ _ (omega arith)) (omega arith) loses

pub returns-clause-edges : goal.returns-clause-edges
returns-clause-edges c = λ x y.
    let g = c.self.inside in
    let loses = rw c.deref_mut.ensures.value at c.clear_bit.ensures in
    rw (take_at c.clear_bit.new.table _ g.tables.edges.len (omega arith)) (sees_less c.args.self.now _ g.tables.nodes g.tables.width g.tables.edges.items c.clear_bit.new.table c.args.u c.args.v
    (record { grown = _; is = c.self.view_is }) (record { grown = _; is = refl }) c.self.invariant.fits loses x y)

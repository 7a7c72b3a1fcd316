use Rattle.std.proofs.Common.{◌≡◌, ◌⊎◌, ◌↔◌, ◌/◌, ◌<◌, inl, inr, ℕ, length, drop, refl, arith}
use Rattle.std.proofs.lemmas.List.{take_at}
use Rattle.bitsets.specs.Tables.{IsSet}
use Rattle.bitsets.proofs.TableFacts.{column_within}
use Rattle.order_graph.proofs.KeptTablesFacts.{sees_nodes, sees_path}
use Rattle.order_graph.proofs.Reached.{masked_to}
use Rattle.order_graph.proofs.edge_sets.EdgeSet.leads.Goals as goal

pub returns : goal.returns
returns c =
    let g = c.self.inside in
    let a = c.args in
    let n = sees_nodes a.self.now g.tables.nodes g.tables.width g.tables.edges.items (record { grown = _; is = c.self.view_is }) in
    let path = sees_path a.self.now g.tables.nodes g.tables.width g.tables.edges.items (record { grown = _; is = c.self.view_is }) a.u a.v in
    let copied = rw (c.transposed_table.ensures.words, c.transposed_table.ensures.width) at c.in_ok-mask.ensures.bits in
    let adds = rw c.deref_mut.ensures.value at c.set_bit.ensures in
    let same = take_at c.set_bit.new.table (drop (length c.set_bit.new.table) c.in_ok-mask.mask.items) c.in_ok-mask.mask.len (omega arith) in
    let reached = rw (c.edge_table.ensures.words, c.edge_table.ensures.width, c.deref.ensures.value, same) at c.in_ok-row.ensures in
    let has : (y : ℕ) → y / 64 < g.tables.width → IsSet c.set_bit.new.table g.tables.width 0 y ↔ (IsSet g.tables.transposed.items g.tables.width a.v y ⊎ (y ≡ a.v)) = λ y h. (
      λ s. elim ((adds.bits 0 y h).0 s) [ inl o ↦ inl ((copied y h).0 o) | inr e ↦ inr e.1 ],
      λ s. (adds.bits 0 y h).1 (elim s [ inl o ↦ inl ((copied y h).1 o) | inr e ↦ inr (refl, e) ]),
    ) in
    let masked = masked_to g.tables.edges.items g.tables.paths.items g.tables.transposed.items c.set_bit.new.table g.tables.width g.tables.nodes a.v c.self.invariant (omega arith) has a.u in
    let tells = rw c.deref-2.ensures.value at c.bit.ensures in
    let r = reached.1 a.v (column_within a.v g.tables.nodes g.tables.width c.self.invariant.fits (omega arith)) in
    (λ t. path.1 (masked.0 (r.0 (tells.0 t))), λ p. tells.1 (r.1 (masked.1 (path.0 p))))

use Rattle.std.proofs.Common.{◌≡◌, length, drop, ap, ◌∙◌, arith}
use Rattle.std.proofs.lemmas.Bool.{both_ways}
use Rattle.std.proofs.lemmas.List.{take_at, with_items_is}
use Rattle.order_graph.proofs.ClosedNumbers.{Notes-start, Notes-add, Notes-skip, Notes-end}
use Rattle.order_graph.proofs.closing.closed_numbers.Goals as goal
use Rattle.order_graph.proofs.closing.closed_numbers.Goals.{then-bit, else-bit}

pub loop-x-init : goal.loop-x-init
loop-x-init c =
    let a = c.args in
    Notes-start a.tables.edges.now a.tables.transposed.now c.in_ok-row.row.items c.in_ok-upto.upto.items a.tables.width (c.in_ok-row.ensures.items_if_clones_equal (λ y e. e)) (c.in_ok-upto.ensures.items_if_clones_equal (λ y e. e))

pub loop-x-preserved : goal.loop-x-preserved
loop-x-preserved c =
    let a = c.args in
    let next = take_at c.set_bit.new.table (drop (length c.set_bit.new.table) c.loop-x.upto.items) c.loop-x.upto.len (omega arith) in
    let steps = rw c.deref_mut.ensures.value at c.set_bit.ensures in
    elim c.if-bit.branch [
      | then-bit w ↦ (let items : c.if-bit.row.items ≡ w.note_closed.new.row = ap (λ v. v.items) w.row-is ∙ with_items_is c.loop-x.row w.note_closed.new.row (omega arith) in
          let adds = rw (w.deref_mut-then-bit.ensures.value, w.deref.ensures.value, next) at w.note_closed.ensures in
          rw (items, next) (Notes-add a.tables.edges.now a.tables.transposed.now c.loop-x.row.items c.loop-x.upto.items w.note_closed.new.row c.set_bit.new.table a.tables.width c.loop-x.x c.loop-x.invariant (omega arith) (omega arith) steps adds))
      | else-bit w ↦ (let items : c.if-bit.row.items ≡ c.loop-x.row.items = ap (λ v. v.items) w.row-is in
          rw (items, next) (Notes-skip a.tables.nodes a.tables.width a.tables.edges.now a.tables.paths.now a.tables.transposed.now c.loop-x.row.items c.loop-x.upto.items c.set_bit.new.table c.loop-x.x c.requires.keeps (omega arith)
          (λ s. both_ways c.bit.result w.if-bit.false (c.bit.ensures.1 s)) c.loop-x.invariant (omega arith) steps))
    ]

pub returns : goal.returns
returns c =
    let a = c.args in
    Notes-end a.tables.edges.now a.tables.transposed.now c.loop-x.row.items c.loop-x.upto.items a.tables.width a.tables.nodes c.loop-x.x c.loop-x.invariant (omega arith)

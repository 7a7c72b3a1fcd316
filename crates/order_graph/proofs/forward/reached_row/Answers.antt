use Rattle.std.proofs.Common.{◌<◌, length, drop, arith}
use Rattle.std.proofs.lemmas.List.{take_at}
use Rattle.order_graph.proofs.Reached.{Reaching-start, Reaching-step, Reaching-end, Reaching-below, not_done-less}
use Rattle.bitsets.proofs.TableFacts.{row_within}
use Rattle.order_graph.proofs.forward.reached_row.Goals as goal

pub numbers-init : goal.numbers-init
numbers-init c =
    let a = c.args in
    let reaches = rw c.deref_mut.ensures.value at c.expand.ensures.reached in
    let fills = rw (c.deref_mut.ensures.value, c.deref_mut-2.ensures.value) at c.expand.ensures.left in
    rw (take_at c.expand.new.reached _ c.in_ok-reached.reached.len (omega arith), take_at c.expand.new.left _ c.in_ok-left.left.len (omega arith))
    (Reaching-start a.edges.words.now a.mask.now c.in_ok-reached.reached.items c.expand.new.reached c.in_ok-left.left.items c.expand.new.left a.edges.width a.nodes a.u c.requires.fits c.requires.from c.requires.within
    (c.in_ok-reached.ensures.items_if_clones_equal (λ y e. e)) (c.in_ok-left.ensures.items_if_clones_equal (λ y e. e)) (omega arith) (omega arith) reaches fills)

pub expand-requires-in-Some-clause-edges_row : goal.expand-requires-in-Some-clause-edges_row
expand-requires-in-Some-clause-edges_row c =
    let a = c.args in
    let found = rw c.deref.ensures.value at c.in-Some.ensures in
    let met = c.numbers.invariant.some c.in-Some.x found.column found.first in
    let below : c.in-Some.x < a.nodes = Reaching-below a.edges.words.now a.mask.now c.numbers.reached.items c.numbers.left.items a.edges.width a.nodes a.u c.in-Some.x c.numbers.invariant found.column met in
    omega (arith, row_within c.in-Some.x a.nodes a.edges.width below, c.requires.sized)

pub numbers-smaller : goal.numbers-smaller
numbers-smaller c =
    let a = c.args in
    let found = rw c.deref.ensures.value at c.in-Some.ensures in
    let less = take_at c.clear_bit.new.table (drop (length c.clear_bit.new.table) c.numbers.left.items) c.numbers.left.len (omega arith) in
    let loses = rw c.deref_mut-in-Some.ensures.value at c.clear_bit.ensures in
    let reaches = rw c.deref_mut-in-Some-2.ensures.value at c.expand-in-Some.ensures.reached in
    let fills = rw (c.deref_mut-in-Some-2.ensures.value, c.deref_mut-in-Some-3.ensures.value, less) at c.expand-in-Some.ensures.left in
    rw (take_at c.expand-in-Some.new.reached _ c.numbers.reached.len (omega arith), take_at c.expand-in-Some.new.left _ c.numbers.left.len (omega arith))
    (not_done-less a.edges.words.now a.mask.now c.numbers.reached.items c.expand-in-Some.new.reached c.numbers.left.items c.clear_bit.new.table c.expand-in-Some.new.left a.edges.width a.nodes a.u c.in-Some.x
    c.requires.fits c.numbers.invariant found.column found.first loses reaches fills)

pub numbers-preserved : goal.numbers-preserved
numbers-preserved c =
    let a = c.args in
    let found = rw c.deref.ensures.value at c.in-Some.ensures in
    let less = take_at c.clear_bit.new.table (drop (length c.clear_bit.new.table) c.numbers.left.items) c.numbers.left.len (omega arith) in
    let loses = rw c.deref_mut-in-Some.ensures.value at c.clear_bit.ensures in
    let reaches = rw c.deref_mut-in-Some-2.ensures.value at c.expand-in-Some.ensures.reached in
    let fills = rw (c.deref_mut-in-Some-2.ensures.value, c.deref_mut-in-Some-3.ensures.value, less) at c.expand-in-Some.ensures.left in
    rw (take_at c.expand-in-Some.new.reached _ c.numbers.reached.len (omega arith), take_at c.expand-in-Some.new.left _ c.numbers.left.len (omega arith))
    (Reaching-step a.edges.words.now a.mask.now c.numbers.reached.items c.expand-in-Some.new.reached c.numbers.left.items c.clear_bit.new.table c.expand-in-Some.new.left a.edges.width a.nodes a.u c.in-Some.x
    c.requires.fits c.requires.within c.numbers.invariant found.column found.first loses (omega arith) (omega arith) reaches fills)

pub returns : goal.returns
returns c =
    let a = c.args in
    let none = rw c.deref.ensures.value at c.in_default.ensures in (
      c.numbers.invariant.reached_sized,
      Reaching-end a.edges.words.now a.mask.now c.numbers.reached.items c.numbers.left.items a.edges.width a.nodes a.u c.requires.fits c.numbers.invariant (λ y h s. none y h s s),
    )

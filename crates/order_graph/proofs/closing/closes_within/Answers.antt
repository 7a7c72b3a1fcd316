use Rattle.std.proofs.Common.{◌≡◌, ◌++◌, inr, replicate, length, drop, refl, arith}
use Rattle.std.proofs.lemmas.Bool.{both_ways}
use Rattle.std.proofs.lemmas.Grind.{common_steps}
use Rattle.std.proofs.lemmas.List.{take_at}
use Rattle.order_graph.proofs.ShortCycles.{Closing-start, Closing-step, Closing-limit, Closing-last}
use Rattle.order_graph.proofs.closing.closes_within.Goals as goal

pub loop-count-init : goal.loop-count-init
loop-count-init c =
    let a = c.args in
    let adds = rw c.deref_mut.ensures.value at c.set_bit.ensures in
    let seen : c.in_ok-seen.seen.items ≡ a.passed.now = c.in_ok-seen.ensures.items_if_clones_equal (λ x y e. e) in
    rw (take_at c.set_bit.new.table _ c.in_ok-levels.levels.len (omega arith))
    (Closing-start a.tables.edges.now a.tables.transposed.now c.in_ok-levels.levels.items c.set_bit.new.table c.in_ok-reached.reached.items c.in_ok-seen.seen.items a.tables.width a.tables.nodes a.start c.requires.keeps.fits c.requires.within
    (c.in_ok-levels.ensures.items_if_clones_equal (λ y e. e)) (c.in_ok-reached.ensures.items_if_clones_equal (λ y e. e)) (omega arith) (rw seen c.requires.sized) (rw seen c.requires.passed) adds)

pub returns-then-not-advance : goal.returns-then-not-advance
returns-then-not-advance c =
    let a = c.args in
    let wider = take_at c.spread.new.reached (drop (length c.spread.new.reached) c.loop-count.reached.items) c.loop-count.reached.len (omega arith) in
    let spreads = rw (c.deref_mut-in-loop-count.ensures.value, c.deref.ensures.value) at c.spread.ensures in
    let bit = rw (c.deref-in-loop-count.ensures.value, wider) at c.bit.ensures in
    let fills = rw (c.deref_mut-in-loop-count-2.ensures.value, c.deref_mut-in-loop-count-3.ensures.value, c.deref-in-loop-count-2.ensures.value, wider) at c.advance.ensures.level in
    let sees = rw (c.deref_mut-in-loop-count-3.ensures.value, c.deref-in-loop-count-2.ensures.value, wider) at c.advance.ensures.seen in
    let some = rw (c.deref_mut-in-loop-count-3.ensures.value, c.deref-in-loop-count-2.ensures.value, wider) at c.advance.ensures.some in
    let same : c.resize.new.self.items ≡ c.loop-count.levels.items ++ replicate a.tables.width 0 = grind (arith, common_steps, c.in_ok-resize.ensures.items, c.len.ensures) in
    inr (Closing-last a.tables.edges.now a.tables.paths.now a.tables.transposed.now c.loop-count.levels.items c.resize.new.self.items c.advance.new.levels c.loop-count.reached.items c.spread.new.reached c.loop-count.seen.items c.advance.new.seen
    a.tables.width a.tables.nodes a.start c.loop-count.count _ a.limit c.requires.keeps c.requires.within refl c.loop-count.invariant spreads (λ s. both_ways c.bit.result c.if-bit.false (bit.1 s)) same (omega arith) (omega arith) (omega arith) fills sees
    (λ y h l p. both_ways c.advance.result c.if-not-advance.true (some y h l p)))

pub loop-count-preserved : goal.loop-count-preserved
loop-count-preserved c =
    let a = c.args in
    let wider = take_at c.spread.new.reached (drop (length c.spread.new.reached) c.loop-count.reached.items) c.loop-count.reached.len (omega arith) in
    let spreads = rw (c.deref_mut-in-loop-count.ensures.value, c.deref.ensures.value) at c.spread.ensures in
    let bit = rw (c.deref-in-loop-count.ensures.value, wider) at c.bit.ensures in
    let fills = rw (c.deref_mut-in-loop-count-2.ensures.value, c.deref_mut-in-loop-count-3.ensures.value, c.deref-in-loop-count-2.ensures.value, wider) at c.advance.ensures.level in
    let sees = rw (c.deref_mut-in-loop-count-3.ensures.value, c.deref-in-loop-count-2.ensures.value, wider) at c.advance.ensures.seen in
    let same : c.resize.new.self.items ≡ c.loop-count.levels.items ++ replicate a.tables.width 0 = grind (arith, common_steps, c.in_ok-resize.ensures.items, c.len.ensures) in
    rw (take_at c.advance.new.levels _ c.resize.new.self.len (omega arith), wider, take_at c.advance.new.seen _ c.loop-count.seen.len (omega arith))
    (Closing-step a.tables.edges.now a.tables.paths.now a.tables.transposed.now c.loop-count.levels.items c.resize.new.self.items c.advance.new.levels c.loop-count.reached.items c.spread.new.reached c.loop-count.seen.items c.advance.new.seen
    a.tables.width a.tables.nodes a.start c.loop-count.count _ c.requires.keeps c.requires.within refl c.loop-count.invariant spreads (λ s. both_ways c.bit.result c.if-bit.false (bit.1 s)) same (omega arith) (omega arith) (omega arith) fills sees)

pub returns : goal.returns
returns c =
    let a = c.args in
    inr (Closing-limit a.tables.edges.now a.tables.transposed.now c.loop-count.levels.items c.loop-count.reached.items c.loop-count.seen.items a.tables.width a.tables.nodes a.start c.loop-count.count a.limit c.loop-count.invariant (omega arith))

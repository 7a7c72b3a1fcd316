use Rattle.std.proofs.Common.{◌≡◌, ◌<◌, ◌++◌, replicate, sym, ◌∙◌, arith}
use Rattle.std.proofs.lemmas.Grind.{common_steps}
use Rattle.std.proofs.lemmas.List.{take_at}
use Rattle.order_graph.proofs.SearchesFacts.{Levels-start, Levels-step, path_size, path_size-above, none_from_match}
use Rattle.order_graph.proofs.searches.shortest.Goals as goal

pub levels-init : goal.levels-init
levels-init c =
    let a = c.args in
    let adds = rw c.deref_mut.ensures.value at c.set_bit.ensures in
    rw (take_at c.set_bit.new.table _ c.in_ok-levels.levels.len (omega arith))
    (Levels-start a.tables.edges.now a.tables.paths.now c.in_ok-levels.levels.items c.set_bit.new.table a.tables.width a.tables.nodes a.u a.v c.requires.covers.fits c.requires.to
    (c.in_ok-levels.ensures.items_if_clones_equal (λ y e. e)) (omega arith) adds)

pub levels-smaller : goal.levels-smaller
levels-smaller c =
    let a = c.args in
    let above : c.levels.count < path_size a.tables.edges.now a.tables.width a.tables.nodes a.u a.v = path_size-above a.tables.edges.now a.tables.width a.tables.nodes a.u a.v c.levels.count c.requires.path c.levels.invariant.none in
    omega arith

pub levels-preserved : goal.levels-preserved
levels-preserved c =
    let a = c.args in
    let adds = rw c.deref_mut-in-levels.ensures.value at c.raise.ensures in
    let shared = rw c.deref.ensures.value at c.first_shared.ensures in
    let same : c.resize.new.self.items ≡ c.levels.levels.items ++ replicate a.tables.width 0 = grind (arith, common_steps, c.in_ok-resize.ensures.items, c.len.ensures) in
    rw (take_at c.raise.new.levels _ c.resize.new.self.len (omega arith))
    (Levels-step a.tables.nodes a.tables.width a.tables.edges.now a.tables.paths.now a.tables.transposed.now c.levels.levels.items c.resize.new.self.items c.raise.new.levels a.u a.v c.levels.count c.requires.covers c.requires.from c.requires.to
    c.levels.invariant (none_from_match _ _ _ shared (sym c.is_some.ensures ∙ c.if-is_some.false)) same (omega arith) adds)

use Rattle.std.proofs.Common.{◌≡◌, suc, ◌+◌, ◌-◌, [], ◌∷◌, ◌++◌, sym, subst, arith}
use Rattle.std.proofs.lemmas.Grind.{common_steps}
use Rattle.bitsets.specs.Tables.{IsFirstShared}
use Rattle.order_graph.specs.Internal.Tracks.{IsLevel}
use Rattle.order_graph.proofs.SearchesFacts.{Descends, Descends-start, Descends-meets, Descends-step, Descends-end}
use Rattle.order_graph.proofs.searches.descend.Goals as goal

pub loop-done-init : goal.loop-done-init
loop-done-init c =
    let a = c.args in
    let items : c.push.new.self.items ≡ a.u ∷ [] = grind (arith, common_steps, c.in_ok-push.ensures.items) in
    let all : a.count - 0 ≡ a.count = omega arith in
    subst (λ n. Descends a.tables.edges.now a.tables.paths.now a.tables.width a.tables.nodes a.u a.v a.count n a.u c.push.new.self.items) (sym all)
    (subst (λ l. Descends a.tables.edges.now a.tables.paths.now a.tables.width a.tables.nodes a.u a.v a.count a.count a.u l) (sym items)
    (Descends-start a.tables.nodes a.tables.width a.tables.edges.now a.tables.paths.now a.tables.transposed.now a.levels.now a.u a.v a.count c.requires.covers c.requires.from (c.requires.levels a.count (omega arith)) c.requires.meets))

pub unreachable-requires : goal.unreachable-requires
unreachable-requires c =
    let a = c.args in
    Descends-meets a.tables.nodes a.tables.width a.tables.edges.now a.tables.paths.now a.tables.transposed.now a.levels.now a.u a.v a.count (a.count - c.loop-done.done) c.loop-done.at c.loop-done.list.items
    c.requires.covers (c.requires.levels (a.count - c.loop-done.done) (omega arith)) c.loop-done.invariant c.in_default.ensures

pub loop-done-preserved : goal.loop-done-preserved
loop-done-preserved c =
    let a = c.args in
    let list = c.loop-done.list.items in
    let left = a.count - (c.loop-done.done + 1) in
    let items : c.push-in-loop-done.new.self.items ≡ list ++ c.in-Some.next ∷ [] = grind (arith, common_steps, c.in_ok-push-2.ensures.items) in
    let e : a.count - c.loop-done.done ≡ suc left = omega arith in
    subst (λ l. Descends a.tables.edges.now a.tables.paths.now a.tables.width a.tables.nodes a.u a.v a.count left c.in-Some.next l) (sym items)
    (Descends-step a.tables.nodes a.tables.width a.tables.edges.now a.tables.paths.now a.tables.transposed.now a.levels.now a.u a.v a.count left c.loop-done.at c.in-Some.next list c.requires.covers c.requires.from
    (subst (λ n. IsLevel a.tables.edges.now a.tables.paths.now a.levels.now a.tables.width a.tables.nodes a.u a.v n) e (c.requires.levels (a.count - c.loop-done.done) (omega arith)))
    (subst (λ n. Descends a.tables.edges.now a.tables.paths.now a.tables.width a.tables.nodes a.u a.v a.count n c.loop-done.at list) e c.loop-done.invariant)
    (subst (λ n. IsFirstShared a.tables.edges.now c.loop-done.at a.levels.now n a.tables.width c.in-Some.next) e c.in-Some.ensures))

pub returns : goal.returns
returns c =
    let a = c.args in
    let none : a.count - c.loop-done.done ≡ 0 = omega arith in
    let end = Descends-end a.tables.edges.now a.tables.paths.now a.tables.width a.tables.nodes a.u a.v a.count c.loop-done.at c.loop-done.list.items
    (subst (λ n. Descends a.tables.edges.now a.tables.paths.now a.tables.width a.tables.nodes a.u a.v a.count n c.loop-done.at c.loop-done.list.items) none c.loop-done.invariant) c.requires.shortest in
    (end.0, omega (arith, end.1))

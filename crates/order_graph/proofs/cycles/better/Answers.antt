use Rattle.std.proofs.Common.{inl, inr, arith}
use Rattle.std.proofs.lemmas.Bool.{both_ways}
use Rattle.order_graph.specs.Internal.Tables.{Joined}
use Rattle.order_graph.proofs.CyclesFacts.{next_longer, next_found}
use Rattle.order_graph.proofs.SearchesFacts.{KeepsAllPaths-covers}
use Rattle.order_graph.proofs.ShortCycles.{IsClosedNumber-reach, next_closed, next_unclosed}
use Rattle.order_graph.proofs.cycles.better.Goals as goal

pub returns-then-not-bit : goal.returns-then-not-bit
returns-then-not-bit c =
    let a = c.args in
    next_unclosed (λ v. v.items) a.tables.nodes a.tables.width a.tables.edges.now a.tables.paths.now a.tables.transposed.now a.start a.best c.requires.keeps c.requires.within
    (λ p. both_ways c.bit.result c.if-not-bit.true (c.bit.ensures.1 ((c.requires.closed a.start (omega arith)).1 p))) c.requires.best

pub shortest-requires-clause-covers : goal.shortest-requires-clause-covers
shortest-requires-clause-covers c =
    let a = c.args in
    KeepsAllPaths-covers a.tables.nodes a.tables.width a.tables.edges.now a.tables.paths.now a.tables.transposed.now c.requires.keeps

pub shortest-requires-clause-path : goal.shortest-requires-clause-path
shortest-requires-clause-path c =
    let a = c.args in
    IsClosedNumber-reach a.tables.nodes a.tables.width a.tables.edges.now a.tables.paths.now a.tables.transposed.now a.start c.requires.keeps c.requires.within ((c.requires.closed a.start (omega arith)).0 (c.bit.ensures.0 c.if-not-bit.false))

pub returns-then-not-may : goal.returns-then-not-may
returns-then-not-may c =
    let a = c.args in
    elim c.in_ok-may.ensures [
      | inl may ↦ absurd (both_ways c.in_ok-may.may c.if-not-may.true may)
      | inr none ↦ next_closed (λ v. v.items) a.tables.nodes a.tables.width a.tables.edges.now a.tables.paths.now a.tables.transposed.now a.start a.best c.limit_below-limit.result c.requires.keeps c.requires.within
          c.limit_below-limit.ensures none c.requires.best
    ]

pub returns-in-Some : goal.returns-in-Some
returns-in-Some c =
    let a = c.args in
    let found = rw c.in-Some.is at c.in_ok-cycle.ensures in
    next_found (λ v. v.items) (Joined a.tables.edges.now a.tables.width a.tables.nodes) a.start a.best c.limit_below-limit.result c.in-Some.cycle.items c.limit_below-limit.ensures found.0 found.1 c.requires.best

pub returns-in-None : goal.returns-in-None
returns-in-None c =
    let a = c.args in
    let found = rw c.in-None.is at c.in_ok-cycle.ensures in
    next_longer (λ v. v.items) (Joined a.tables.edges.now a.tables.width a.tables.nodes) a.start a.best c.limit_below-limit.result c.limit_below-limit.ensures found c.requires.best

use Rattle.std.proofs.Common.{◌<◌, get_or, refl, sym, subst, arith}
use Rattle.std.proofs.lemmas.Bool.{false≢true}
use Rattle.std.proofs.lemmas.List.{take_all}
use Rattle.std.proofs.lemmas.List.Elements.{Contains-get_or}
use Rattle.round_pool.specs.declared.ranked.Edge.{Edge}
use Rattle.round_pool.specs.Rankings.{ListsEdge}
use Rattle.round_pool.proofs.WorksetFacts.{none_closes}
use Rattle.round_pool.proofs.round_loop.closes_cycle.Goals as goal

pub reaches-requires-clause-from : goal.reaches-requires-clause-from
reaches-requires-clause-from c =
    let none : Edge = record { from = 0; to = 0 } in
    let edge : Edge = get_or c.args.edges.now c.loop-edge.edge-index none in
    (c.requires edge.from edge.to (Contains-get_or c.args.edges.now c.loop-edge.edge-index none c.loop-edge-test.true)).1

pub reaches-requires-clause-to : goal.reaches-requires-clause-to
reaches-requires-clause-to c =
    let none : Edge = record { from = 0; to = 0 } in
    let edge : Edge = get_or c.args.edges.now c.loop-edge.edge-index none in
    (c.requires edge.from edge.to (Contains-get_or c.args.edges.now c.loop-edge.edge-index none c.loop-edge-test.true)).0

pub loop-edge-init : goal.loop-edge-init
loop-edge-init c = λ u v has path. let low : has.0 < 0 = has.1 in omega arith

pub returns-then-reaches : goal.returns-then-reaches
returns-then-reaches c =
    let none : Edge = record { from = 0; to = 0 } in
    let edge : Edge = get_or c.args.edges.now c.loop-edge.edge-index none in
    (λ same. (edge.from, edge.to, Contains-get_or c.args.edges.now c.loop-edge.edge-index none c.loop-edge-test.true, c.reaches.ensures.path.0 c.if-reaches.true), λ closes. refl)

pub loop-edge-preserved : goal.loop-edge-preserved
loop-edge-preserved c =
    let none : Edge = record { from = 0; to = 0 } in
    none_closes c.args.graph.now c.args.edges.now c.loop-edge.edge-index none c.loop-edge.invariant c.loop-edge-test.true (λ path. false≢true (c.if-reaches.ensures.path.1 path))

pub returns : goal.returns
returns c = (
  λ same. absurd (false≢true same),
  λ closes. absurd (c.loop-edge.invariant closes.0 closes.1 (subst (λ l. ListsEdge l closes.0 closes.1) (sym (take_all c.loop-edge.edge-index c.args.edges.now c.loop-edge-test.false)) closes.2) closes.3),
)

use Rattle.std.proofs.Common.{◌<◌, get_or, refl, sym, subst}
use Rattle.std.proofs.lemmas.List.{take_all}
use Rattle.std.proofs.lemmas.List.Elements.{Contains-get_or}
use Rattle.round_pool.specs.declared.ranked.Edge.{Edge}
use Rattle.round_pool.specs.RankGraphs.{AddsEdges}
use Rattle.round_pool.specs.Rankings.{ListsEdge}
use Rattle.order_graph.specs.Digraphs.{IsEdge}
use Rattle.round_pool.proofs.GraphFacts.{edges_start, edges_more}
use Rattle.round_pool.proofs.WorksetFacts.{grown_start, grown_step}
use Rattle.round_pool.proofs.graphs.add_edges.Goals as goal

pub add-requires-clause-from : goal.add-requires-clause-from
add-requires-clause-from c =
    let none : Edge = record { from = 0; to = 0 } in
    let edge : Edge = get_or c.args.edges.now c.loop-edge.edge-index none in
    subst (λ n. edge.from < n) (sym c.loop-edge.invariant.0.nodes)
    (c.requires edge.from edge.to (Contains-get_or c.args.edges.now c.loop-edge.edge-index none c.loop-edge-test.true)).0

pub add-requires-clause-to : goal.add-requires-clause-to
add-requires-clause-to c =
    let none : Edge = record { from = 0; to = 0 } in
    let edge : Edge = get_or c.args.edges.now c.loop-edge.edge-index none in
    subst (λ n. edge.to < n) (sym c.loop-edge.invariant.0.nodes)
    (c.requires edge.from edge.to (Contains-get_or c.args.edges.now c.loop-edge.edge-index none c.loop-edge-test.true)).1

pub loop-edge-init : goal.loop-edge-init
loop-edge-init c = (edges_start c.args.graph.now c.args.edges.now, grown_start c.args.graph.now)

pub loop-edge-preserved : goal.loop-edge-preserved
loop-edge-preserved c =
    let none : Edge = record { from = 0; to = 0 } in (
      edges_more c.args.graph.now c.loop-edge.graph c.add.new.self c.loop-edge.edge-index c.args.edges.now (get_or c.args.edges.now c.loop-edge.edge-index none) none
          c.loop-edge.invariant.0 c.loop-edge-test.true refl c.add.ensures.nodes c.add.ensures.edges,
      grown_step (IsEdge c.args.graph.now) c.loop-edge.graph c.add.new.self c.loop-edge.invariant.1 (λ x. (c.add.ensures.grown x).1),
    )

pub returns-clause-edges : goal.returns-clause-edges
returns-clause-edges c = subst (λ l. AddsEdges c.args.graph.now c.loop-edge.graph (ListsEdge l)) (take_all c.loop-edge.edge-index c.args.edges.now c.loop-edge-test.false) c.loop-edge.invariant.0

pub returns-clause-grown : goal.returns-clause-grown
returns-clause-grown c = c.loop-edge.invariant.1

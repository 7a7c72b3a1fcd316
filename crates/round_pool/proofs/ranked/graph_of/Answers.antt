use Rattle.std.proofs.Common.{◌∙◌, List, map, subst, arith}
use Rattle.std.specs.Global.{Vec}
use Rattle.std.proofs.lemmas.List.{length-map}
use Rattle.round_pool.specs.declared.ranked.Edge.{Edge}
use Rattle.round_pool.specs.Rankings.{ListsEdge}
use Rattle.round_pool.proofs.RankedFacts.{edges_at, graph_of_more}
use Rattle.round_pool.proofs.ranked.graph_of.Goals as goal

pub add_edges-requires : goal.add_edges-requires
add_edges-requires c = λ u v has.
    let here = c.deref.ensures.value ∙ edges_at c.args.added.now c.loop-k.k c.index-added-k.result c.index-added-k.result c.loop-k-test.true c.index-added-k.is in
    let inside = c.loop-k-test.true in
    let size = length-map c.args.added.now (λ (v : Vec Edge). v.items) in
    rw c.loop-k.invariant.nodes_are (c.requires.within c.loop-k.k (omega (arith, inside, size)) u v (subst (λ (l : List Edge). ListsEdge l u v) here has))

pub loop-k-preserved : goal.loop-k-preserved
loop-k-preserved c =
    let here = c.deref.ensures.value ∙ edges_at c.args.added.now c.loop-k.k c.index-added-k.result c.index-added-k.result c.loop-k-test.true c.index-added-k.is in
    graph_of_more c.args.nodes (map (λ (v : Vec Edge). v.items) c.args.added.now) c.args.first c.loop-k.k c.loop-k.graph c.add_edges.new.graph c.deref.result.now c.loop-k.auto.k here c.loop-k.invariant c.add_edges.ensures.edges

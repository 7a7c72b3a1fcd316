use Rattle.std.proofs.Common.{◌≡◌, ◌∙◌, List, [], length, map, get_or, sym, ap, subst, arith}
use Rattle.std.specs.Global.{Vec}
use Rattle.std.proofs.lemmas.List.{length-map}
use Rattle.order_graph.specs.Digraphs.{IsEdge}
use Rattle.tso_model.proofs.Searches.{none_more}
use Rattle.round_pool.specs.declared.ranked.Edge.{Edge}
use Rattle.round_pool.specs.Rankings.{Ranking, ListsEdge}
use Rattle.round_pool.proofs.RankedFacts.{edges_at, rank_of_added, rank_of_base}
use Rattle.round_pool.proofs.ranked.Ranked.rank.Goals as goal

pub returns-then-lists_edge : goal.returns-then-lists_edge
returns-then-lists_edge c = λ t ranking.
    let vectors = c.deref-edges-items.result.now in
    let added : c.args.self.now.added ≡ map (λ (v : Vec Edge). v.items) vectors = sym (ap (λ (r : Ranking). r.added) c.self.view_is) ∙ sym (ap (map (λ (v : Vec Edge). v.items)) c.deref-edges-items.ensures.value) in
    let size = ap (λ (l : List (List Edge)). length l) added ∙ length-map vectors (λ (v : Vec Edge). v.items) in
    let inside = c.loop-k-test.true in
    let here = c.deref.ensures.value ∙ edges_at vectors c.loop-k.k c.edges-item.result c.edges-item.result inside c.edges-item.is ∙ sym (ap (λ (l : List (List Edge)). get_or l c.loop-k.k []) added) in
    rank_of_added t c.args.self.now ranking c.args.u c.args.v c.loop-k.k (omega (arith, size, inside))
    (subst (λ (l : List Edge). ListsEdge l c.args.u c.args.v) here (c.lists_edge.ensures.0 c.if-lists_edge.true))

pub loop-k-preserved : goal.loop-k-preserved
loop-k-preserved c =
    let vectors = c.deref-edges-items.result.now in
    let added : c.args.self.now.added ≡ map (λ (v : Vec Edge). v.items) vectors = sym (ap (λ (r : Ranking). r.added) c.self.view_is) ∙ sym (ap (map (λ (v : Vec Edge). v.items)) c.deref-edges-items.ensures.value) in
    let here = c.deref.ensures.value ∙ edges_at vectors c.loop-k.k c.edges-item.result c.edges-item.result c.loop-k-test.true c.edges-item.is ∙ sym (ap (λ (l : List (List Edge)). get_or l c.loop-k.k []) added) in
    none_more (λ j. ListsEdge (get_or c.args.self.now.added j []) c.args.u c.args.v) c.loop-k.k c.loop-k.invariant (rw (here, c.if-lists_edge.false) at c.lists_edge.ensures)

pub returns : goal.returns
returns c = λ t ranking.
    let vectors = c.deref-edges-items.result.now in
    let added : c.args.self.now.added ≡ map (λ (v : Vec Edge). v.items) vectors = sym (ap (λ (r : Ranking). r.added) c.self.view_is) ∙ sym (ap (map (λ (v : Vec Edge). v.items)) c.deref-edges-items.ensures.value) in
    let size = ap (λ (l : List (List Edge)). length l) added ∙ length-map vectors (λ (v : Vec Edge). v.items) in
    let past = c.loop-k-test.false in
    rank_of_base t c.args.self.now ranking c.args.u c.args.v (subst (λ (r : Ranking). IsEdge r.last c.args.u c.args.v) c.self.view_is (c.has_edge.ensures.0 c.if-not-has_edge.false)) (λ j low. c.loop-k.invariant j (omega (arith, low, size, past)))

use Rattle.std.proofs.Common.{◌≡◌, ◌∙◌, List, length, map, sym, ap, subst}
use Rattle.std.specs.Global.{Vec}
use Rattle.std.proofs.lemmas.List.{length-map}
use Rattle.std.proofs.lemmas.Result.{IfOk-weaker}
use Rattle.round_pool.specs.RankGraphs.{IsRankGraph}
use Rattle.round_pool.specs.declared.ranked.Edge.{Edge}
use Rattle.round_pool.specs.Internal.EdgeLists.{AreAllWithin, IsGraphOf, IsDifferenceFrom}
use Rattle.round_pool.specs.Rankings.{Ranking}
use Rattle.round_pool.proofs.RankedFacts.{earlier_graph}
use Rattle.round_pool.proofs.ranked.Ranked.up_to.Goals as goal

pub graph_of-requires-clause-within : goal.graph_of-requires-clause-within
graph_of-requires-clause-within c =
    subst (λ n. AreAllWithin n (map (λ (v : Vec Edge). v.items) c.deref.result.now)) (sym c.nodes.ensures.size)
    (subst (λ (l : List (Vec Edge)). AreAllWithin c.self.inside.last.nodes (map (λ (v : Vec Edge). v.items) l)) (sym c.deref.ensures.value) c.self.invariant)

pub returns : goal.returns
returns c = λ t ranking.
    let vectors = c.deref.result.now in
    let added : c.args.self.now.added ≡ map (λ (v : Vec Edge). v.items) vectors = sym (ap (λ (r : Ranking). r.added) c.self.view_is) ∙ sym (ap (map (λ (v : Vec Edge). v.items)) c.deref.ensures.value) in
    let size : length c.args.self.now.added ≡ length vectors = ap (λ (l : List (List Edge)). length l) added ∙ length-map vectors (λ (v : Vec Edge). v.items) in
    let lists = subst (λ n. IsGraphOf c.nodes.result c.args.self.now.added c.args.k n c.in_ok-later.later) (sym size)
    (subst (λ l. IsGraphOf c.nodes.result l c.args.k (length vectors) c.in_ok-later.later) (sym added) c.in_ok-later.ensures) in
    IfOk-weaker c.difference.result (IsDifferenceFrom c.self.inside.last c.in_ok-later.later 0) (IsRankGraph t c.args.k)
    (λ g is. earlier_graph t c.args.self.now ranking c.args.k c.nodes.result c.in_ok-later.later g c.requires lists
    (subst (λ (r : Ranking). IsDifferenceFrom r.last c.in_ok-later.later 0 g) c.self.view_is is))
    c.difference.ensures

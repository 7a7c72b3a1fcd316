-- Lemmas on ranks: when an edge was added, and which edges a rank set has.
use Rattle.std.proofs.Common.{◌≡◌, inl, inr, ⊎_elim, ℕ, zero, suc, ◌+◌, ◌<◌, ◌≤◌, List, [], length, map, get_or, sym, ap, ◌∙◌, subst, arith}
use Rattle.std.specs.Global.{Vec}
use Rattle.std.proofs.lemmas.Bool.{cases_lt}
use Rattle.std.proofs.lemmas.List.{get_or-map}
use Rattle.order_graph.specs.Digraphs.{Digraph, IsEdge}
use Rattle.tso_ops.specs.Values.{TraceValue}
use Rattle.tso_model.specs.Ranks.{RankSet, HasRank}
use Rattle.tso_model.proofs.Bounds.{RankSet-within}
use Rattle.tso_model.proofs.Decided.{RankSet-decided}
use Rattle.tso_model.proofs.LastRankSet.{RankSet-mono}
use Rattle.round_pool.specs.declared.ranked.Edge.{Edge}
use Rattle.round_pool.specs.RankGraphs.{IsRankGraph, AddsEdges}
use Rattle.round_pool.specs.Internal.EdgeLists.{AreAllWithin, IsGraphOf, IsDifferenceFrom}
use Rattle.round_pool.specs.Rankings.{Ranking, rounds_of, ListsEdge, IsRankingOf}

-- the list that a vector of a list of edges holds
pub edges_at : (vectors : List (Vec Edge)) (i : ℕ) (v d : Vec Edge) → i < length vectors → v ≡ get_or vectors i d → v.items ≡ get_or (map (λ (w : Vec Edge). w.items) vectors) i []
edges_at vectors i v d inside is = ap (λ (w : Vec Edge). w.items) is ∙ sym (get_or-map (λ (w : Vec Edge). w.items) vectors i d [] inside)

-- an edge of a rank set that none of the rounds from k up to it added is one of rank set k
pub in_earlier : (t : TraceValue) (r : Ranking) → IsRankingOf t r → (u v k n : ℕ) → k ≤ n → n ≤ rounds_of r → RankSet t n u v → ((j : ℕ) → k ≤ j → j < n → ListsEdge (get_or r.added j []) u v → ⊥) → RankSet t k u v
in_earlier t r ranking u v k zero low most e none = let at : 0 ≡ k = omega (arith, low) in subst (λ m. RankSet t m u v) at e
in_earlier t r ranking u v k (suc n) low most e none = ⊎_elim
    (λ (before : k < suc n). ⊎_elim
    (λ (here : RankSet t n u v). in_earlier t r ranking u v k n (omega (arith, before)) (omega (arith, most)) here (λ j from to. none j from (omega (arith, to))))
    (λ (not_here : RankSet t n u v → ⊥). absurd (none n (omega (arith, before)) (omega arith) ((ranking.each n (omega (arith, most))).all u v e not_here)))
    (RankSet-decided t n u v))
    (λ (past : suc n ≤ k). let at : suc n ≡ k = omega (arith, past, low) in subst (λ m. RankSet t m u v) at e)
    (cases_lt k (suc n))

-- an edge that a round from k on added isn't one of rank set k
pub not_in_earlier : (t : TraceValue) (r : Ranking) → IsRankingOf t r → (u v k j : ℕ) → k ≤ j → j < rounds_of r → ListsEdge (get_or r.added j []) u v → RankSet t k u v → ⊥
not_in_earlier t r ranking u v k j low inside has e = ((ranking.each j inside).only u v has).1 (RankSet-mono t k j low u v e)

-- the edge that a round added has the next rank
pub rank_of_added : (t : TraceValue) (r : Ranking) → IsRankingOf t r → (u v k : ℕ) → k < rounds_of r → ListsEdge (get_or r.added k []) u v → HasRank t u v (k + 1)
rank_of_added t r ranking u v k inside has = (
  (let next : suc k ≡ k + 1 = omega arith in subst (λ n. RankSet t n u v) next ((ranking.each k inside).only u v has).0),
  λ j low e. not_in_earlier t r ranking u v j k (omega (arith, low)) inside has e,
)

-- an edge that no round added is a base edge
pub rank_of_base : (t : TraceValue) (r : Ranking) → IsRankingOf t r → (u v : ℕ) → IsEdge r.last u v → ((j : ℕ) → j < rounds_of r → ListsEdge (get_or r.added j []) u v → ⊥) → HasRank t u v 0
rank_of_base t r ranking u v e none = (
  in_earlier t r ranking u v 0 (rounds_of r) (omega arith) (omega arith) ((ranking.last.edges u v).0 e) (λ j from to. none j to),
  λ j low. absurd (omega (arith, low)),
)

-- the edges of the last graph that no round from k on added are those of rank set k
pub earlier_graph : (t : TraceValue) (r : Ranking) → IsRankingOf t r → (k : ℕ) (nodes : ℕ) (later g : Digraph) → k ≤ rounds_of r → IsGraphOf nodes r.added k (rounds_of r) later → IsDifferenceFrom r.last later 0 g →
    IsRankGraph t k g
earlier_graph t r ranking k nodes later g low lists is = record {
  nodes = is.nodes_are ∙ ranking.last.nodes;
  edges = λ x y. (
    λ e. (let kept = (is.edges x y).0 e in
        in_earlier t r ranking x y k (rounds_of r) low (omega arith) ((ranking.last.edges x y).0 kept.1) (λ j from to has. kept.2 ((lists.edges x y).1 (j, from, to, has)))),
    λ f. (is.edges x y).1 (
      omega arith,
      (ranking.last.edges x y).1 (RankSet-mono t k (rounds_of r) low x y f),
      λ added. (let place = (lists.edges x y).0 added in not_in_earlier t r ranking x y k place.0 place.1 place.2 place.3 f),
    ),
  );
}

-- the edges that the rounds added lie within the last graph
pub added_within : (t : TraceValue) (r : Ranking) → IsRankingOf t r → AreAllWithin r.last.nodes r.added
added_within t r ranking k inside u v has = rw ranking.last.nodes (RankSet-within t (suc k) u v ((ranking.each k inside).only u v has).0)

-- one list more
pub graph_of_more : (nodes : ℕ) (added : List (List Edge)) (first k : ℕ) (g new : Digraph) (edges : List Edge) → first ≤ k → edges ≡ get_or added k [] → IsGraphOf nodes added first k g → AddsEdges g new (ListsEdge edges) →
    IsGraphOf nodes added first (k + 1) new
graph_of_more nodes added first k g new edges from is graph adds = record {
  nodes_are = adds.nodes ∙ graph.nodes_are;
  edges = λ x y. (
    λ e. ⊎_elim
        (λ (before : IsEdge g x y). let place = (graph.edges x y).0 before in let low = place.2 in (place.0, place.1, omega (arith, low), place.3))
        (λ (now : ListsEdge edges x y). (k, from, omega arith, subst (λ l. ListsEdge l x y) is now))
        ((adds.edges x y).0 e),
    λ place. (adds.edges x y).1 (⊎_elim
        (λ (before : place.0 < k). inl ((graph.edges x y).1 (place.0, place.1, before, place.3)))
        (λ (past : k ≤ place.0). let low = place.2 in let at : place.0 ≡ k = omega (arith, past, low) in inr (subst (λ l. ListsEdge l x y) (ap (λ n. get_or added n []) at ∙ sym is) place.3))
        (cases_lt place.0 k)),
  );
}

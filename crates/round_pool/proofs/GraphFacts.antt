-- Lemmas on graphs that rows are added to.
use Rattle.std.proofs.Common.{◌≡◌, ◌⊎◌, ◌↔◌, inl, inr, ⊎_elim, ℕ, suc, ◌+◌, ◌<◌, ◌≤◌, List, [], ◌∷◌, ◌++◌, length, get_or, take, refl, sym, ap, ◌∙◌, subst, arith}
use Rattle.std.specs.Prelude.{Contains}
use Rattle.std.proofs.lemmas.Bool.{cases_lt}
use Rattle.std.proofs.lemmas.List.{take_more}
use Rattle.std.proofs.lemmas.List.Elements.{Contains-append_left, Contains-push, Contains-push_cases}
use Rattle.bitsets.specs.Rows.{HasNumber}
use Rattle.order_graph.specs.Digraphs.{Digraph, IsEdge}
use Rattle.tso_ops.specs.Values.{TraceValue, rows}
use Rattle.tso_ops.specs.Events.{event_total}
use Rattle.tso_model.specs.Ranks.{RankSet}
use Rattle.tso_model.specs.NewEdges.{IsNew}
use Rattle.tso_model.proofs.Bounds.{RankSet-within}
use Rattle.tso_rules.proofs.AffectedFacts.{from_init}
use Rattle.round_pool.specs.declared.ranked.Edge.{Edge}
use Rattle.round_pool.specs.RankGraphs.{IsRankGraph, AddsEdges}
use Rattle.round_pool.specs.Rankings.{ListsEdge, edge_from}

-- ---- the rows of base edges

-- Rows of edges have the base edges from the numbers before n.
pub record HasRowsBefore (t : TraceValue) (g : Digraph) (n : ℕ) : Type 0 where
  pub nodes : g.nodes ≡ suc (event_total t)
  pub edges : (x y : ℕ) → IsEdge g x y ↔ ((x < n) × RankSet t 0 x y)

pub rows_more : (t : TraceValue) (old new : Digraph) (u : ℕ) (row : List ℕ) → HasRowsBefore t old u → ((v : ℕ) → HasNumber row v ↔ RankSet t 0 u v) → new.nodes ≡ old.nodes →
    ((x y : ℕ) → IsEdge new x y ↔ (IsEdge old x y ⊎ ((x ≡ u) × HasNumber row y))) → HasRowsBefore t new (u + 1)
rows_more t old new u row rows is same adds = record {
  nodes = same ∙ rows.nodes;
  edges = λ x y. (
    λ e. ⊎_elim
        (λ (before : IsEdge old x y). let has = (rows.edges x y).0 before in (omega (arith, has.0), has.1))
        (λ (r : (x ≡ u) × HasNumber row y). (omega (arith, r.0), subst (λ k. RankSet t 0 k y) (sym r.0) ((is y).0 r.1)))
        ((adds x y).0 e),
    λ has. (adds x y).1 (⊎_elim
        (λ (low : x < u). inl ((rows.edges x y).1 (low, has.1)))
        (λ (above : u ≤ x). let at : x ≡ u = omega (arith, above, has.0) in inr (at, (is y).1 (subst (λ k. RankSet t 0 k y) at has.1)))
        (cases_lt x u)),
  );
}

pub rows_whole : (t : TraceValue) (g : Digraph) (n : ℕ) → HasRowsBefore t g n → n ≡ suc (event_total t) → IsRankGraph t 0 g
rows_whole t g n rows all = record {
  nodes = rows.nodes;
  edges = λ x y. (λ e. ((rows.edges x y).0 e).1, λ f. let low = (RankSet-within t 0 x y f).0 in (rows.edges x y).1 (omega (arith, low, all), f));
}

-- ---- rows of a round

pub empty_list : {X : Type 0} (y : X) → Contains [] y → ⊥
empty_list y has = let low : has.0 < 0 = has.1 in omega arith

-- no rule gives an edge from `init`
pub no_new_from_init : (t : TraceValue) (Edge : ℕ → ℕ → Type 0) (v : ℕ) → IsNew t Edge 0 v → ⊥
no_new_from_init t Edge v new = from_init t new.0.0 new.0.1 v new.0.2 new.0.3 new.0.4

-- ---- edges that are added

pub edges_start : (g : Digraph) (edges : List Edge) → AddsEdges g g (ListsEdge (take 0 edges))
edges_start g edges = record {
  nodes = refl;
  edges = λ x y. (λ e. inl e, λ either. ⊎_elim (λ (e : IsEdge g x y). e) (λ (has : ListsEdge [] x y). absurd (let low : has.0 < 0 = has.1 in omega arith)) either);
}

pub edges_more : (old g new : Digraph) (i : ℕ) (edges : List Edge) (e d : Edge) → AddsEdges old g (ListsEdge (take i edges)) → i < length edges → e ≡ get_or edges i d → new.nodes ≡ g.nodes →
    ((x y : ℕ) → IsEdge new x y ↔ (IsEdge g x y ⊎ ((x ≡ e.from) × (y ≡ e.to)))) → AddsEdges old new (ListsEdge (take (i + 1) edges))
edges_more old g new i edges e d adds inside is same more = record {
  nodes = same ∙ adds.nodes;
  edges = λ x y. (
    λ n. ⊎_elim
        (λ (before : IsEdge g x y). ⊎_elim
        (λ (first : IsEdge old x y). inl first)
        (λ (has : ListsEdge (take i edges) x y). inr (subst (λ l. ListsEdge l x y) (sym next) (Contains-append_left (take i edges) (e ∷ []) (edge_from x y) has)))
        ((adds.edges x y).0 before))
        (λ (now : (x ≡ e.from) × (y ≡ e.to)). inr (subst (λ l. ListsEdge l x y) (sym next)
        (subst (λ k. ListsEdge (take i edges ++ e ∷ []) k y) (sym now.0) (subst (λ k. ListsEdge (take i edges ++ e ∷ []) e.from k) (sym now.1) (Contains-push (take i edges) e)))))
        ((more x y).0 n),
    λ either. (more x y).1 (⊎_elim
        (λ (first : IsEdge old x y). inl ((adds.edges x y).1 (inl first)))
        (λ (has : ListsEdge (take (i + 1) edges) x y). elim (Contains-push_cases (take i edges) e (edge_from x y) (subst (λ l. ListsEdge l x y) next has)) [
          | inl before ↦ inl ((adds.edges x y).1 (inr before))
          | inr now ↦ inr (sym (ap (λ (d : Edge). d.from) now), sym (ap (λ (d : Edge). d.to) now))
        ])
        either),
  );
}
  where
    next : take (i + 1) edges ≡ take i edges ++ e ∷ []
    next = take_more edges i d inside ∙ ap (λ w. take i edges ++ w ∷ []) (sym is)

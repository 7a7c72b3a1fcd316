-- Lemmas on rounds: what each adds, and when they end.
use Rattle.std.proofs.Common.{◌≡◌, ◌⊎◌, ◌↔◌, inl, inr, ⊎_elim, ℕ, suc, ◌+◌, ◌<◌, ◌≤◌, List, [], ◌∷◌, ◌++◌, length, get_or, refl, sym, ◌∙◌, subst, arith}
use Rattle.std.proofs.lemmas.Bool.{cases_lt}
use Rattle.std.proofs.lemmas.List.{length-append, get_or_append_left, get_or_at}
use borrow.Author.Count.{below_more}
use Rattle.order_paths.specs.Paths.{Reaches, HasCycle}
use Rattle.order_paths.proofs.Reach.{Reaches-edge, Reaches-mono, HasCycle-mono, HasCycle-iff, Reaches-below}
use Rattle.order_graph.specs.Digraphs.{Digraph, IsEdge}
use Rattle.tso_ops.specs.Values.{TraceValue}
use Rattle.tso_ops.specs.Events.{IsUnwritten}
use Rattle.tso_model.specs.Ranks.{RankSet, IsLast}
use Rattle.tso_model.proofs.LastRankSet.{IsLast-all, last_exists}
use Rattle.tso_model.proofs.NewEdgeFacts.{new_same}
use Rattle.tso_model.proofs.LastRankSet.{before_last, RankSet-mono}
use Rattle.tso_rules.specs.declared.masks.SourceMasks.{SourceMasks}
use Rattle.tso_rules.specs.SourceMasks.{AreSourceMasks}
use Rattle.round_pool.specs.Internal.WorkerRows.{AreOverBase}
use Rattle.round_pool.specs.declared.ranked.Edge.{Edge}
use Rattle.round_pool.specs.RankGraphs.{IsRankGraph, AddsEdges}
use Rattle.round_pool.specs.Internal.EdgeLists.{AreNewEdges}
use Rattle.round_pool.specs.Internal.Worksets.{OnlyGrown, FollowsRound, ClosesCycle}
use Rattle.round_pool.proofs.WorksetFacts.{cycle_closed, closed_cycle}
use Rattle.round_pool.specs.Rankings.{ListsEdge, IsRound, IsRankingOf}

-- What is known before each round: the graph is that of a rank set, each round before added what the next rank set has more, and no rank set
-- before it has a cycle or is last.
pub record AreRoundsMade (t : TraceValue) (g : Digraph) (added : List (List Edge)) : Type 0 where
  pub graph : IsRankGraph t (length added) g
  pub each : (k : ℕ) → k < length added → IsRound t k (get_or added k [])
  pub acyclic : (j : ℕ) → j < length added → HasCycle (RankSet t j) → ⊥
  pub unfinished : (j : ℕ) → j < length added → IsLast t j → ⊥

-- the graph has no cycle
pub record IsAcyclic (g : Digraph) : Type 0 where
  pub none : HasCycle (IsEdge g) → ⊥

-- before the first round
pub made_none : (t : TraceValue) (g : Digraph) → IsRankGraph t 0 g → AreRoundsMade t g []
made_none t g graph = record {
  graph = graph;
  each = λ k low. absurd (omega arith);
  acyclic = λ k low. absurd (omega arith);
  unfinished = λ k low. absurd (omega arith);
}

-- the graph of a rank set has a cycle where the set has one
graph_cycle : (t : TraceValue) (k : ℕ) (g : Digraph) → IsRankGraph t k g → HasCycle (RankSet t k) → HasCycle (IsEdge g)
graph_cycle t k g graph = HasCycle-mono (RankSet t k) (IsEdge g) (λ x y. (graph.edges x y).1)

set_cycle : (t : TraceValue) (k : ℕ) (g : Digraph) → IsRankGraph t k g → HasCycle (IsEdge g) → HasCycle (RankSet t k)
set_cycle t k g graph = HasCycle-mono (IsEdge g) (RankSet t k) (λ x y. (graph.edges x y).0)

-- the graph of a rank set has the base edges
pub over_base : (t : TraceValue) (k : ℕ) (g : Digraph) (masks : SourceMasks) → IsRankGraph t k g → AreSourceMasks t masks → AreOverBase t g masks
over_base t k g masks graph are = record { base = λ x y e. (graph.edges x y).1 (RankSet-mono t 0 k (omega arith) x y e); masks_are = are }

-- new edges over the graph of a rank set are those of the round after it
pub new_round : (t : TraceValue) (k : ℕ) (g : Digraph) (edges : List Edge) → IsRankGraph t k g → AreNewEdges t g edges → IsRound t k edges
new_round t k g edges graph new = record {
  all = λ u v next not_yet. new.all u v (⊎_elim
      (λ (before : RankSet t k u v). absurd (not_yet before))
      (λ more. new_same t (λ x y. RankSet t k x y) (IsEdge g) (λ x y. (graph.edges x y).1) (λ x y. (graph.edges x y).0) u v more)
      next);
  only = λ u v has. (let fresh = new.only u v has in (
    inr (new_same t (IsEdge g) (λ x y. RankSet t k x y) (λ x y. (graph.edges x y).0) (λ x y. (graph.edges x y).1) u v fresh),
    λ e. fresh.1 (Reaches-edge (IsEdge g) u v ((graph.edges u v).1 e)),
  ));
  ascending = new.ascending;
}

-- a round that adds an edge isn't after a last rank set
pub round_not_last : (t : TraceValue) (k : ℕ) (edges : List Edge) → IsRound t k edges → 0 < length edges → IsLast t k → ⊥
round_not_last t k [] round some last = omega arith
round_not_last t k (e ∷ edges) round some last =
    let next = round.only e.from e.to (0, omega arith, refl) in
    next.1 (last e.from e.to next.0)

-- with the edges of a round the graph of a rank set is that of the next
pub next_graph : (t : TraceValue) (k : ℕ) (g new : Digraph) (edges : List Edge) → IsRankGraph t k g → IsRound t k edges → ((u v : ℕ) → RankSet t k u v ⊎ (RankSet t k u v → ⊥)) →
    AddsEdges g new (ListsEdge edges) → IsRankGraph t (k + 1) new
next_graph t k g new edges graph round decided adds = subst (λ n. IsRankGraph t n new) (let next : suc k ≡ k + 1 = omega arith in next) (record {
  nodes = adds.nodes ∙ graph.nodes;
  edges = λ x y. (
    λ e. ⊎_elim (λ (before : IsEdge g x y). inl ((graph.edges x y).0 before)) (λ (has : ListsEdge edges x y). (round.only x y has).0) ((adds.edges x y).0 e),
    λ f. (adds.edges x y).1 (⊎_elim
        (λ (before : RankSet t k x y). inl ((graph.edges x y).1 before))
        (λ (none : RankSet t k x y → ⊥). inr (round.all x y f none))
        (decided x y)),
  );
})

-- a round more, which adds an edge
pub made_more : (t : TraceValue) (g new : Digraph) (added : List (List Edge)) (edges : List Edge) → AreRoundsMade t g added → (HasCycle (IsEdge g) → ⊥) →
    AreNewEdges t g edges → 0 < length edges → ((u v : ℕ) → RankSet t (length added) u v ⊎ (RankSet t (length added) u v → ⊥)) → AddsEdges g new (ListsEdge edges) → AreRoundsMade t new (added ++ edges ∷ [])
made_more t g new added edges made no_cycle fresh some decided adds = record {
  graph = subst (λ n. IsRankGraph t n new) (sym size) (next_graph t (length added) g new edges made.graph round decided adds);
  each = λ k low. below_more (λ j. IsRound t j (get_or (added ++ edges ∷ []) j [])) (length added)
      (λ j before. subst (λ l. IsRound t j l) (sym (get_or_append_left added (edges ∷ []) [] j before)) (made.each j before))
      (subst (λ l. IsRound t (length added) l) (sym (get_or_at added edges [] [] (length added) refl)) round) k (subst (λ n. k < n) size low);
  acyclic = λ k low. below_more (λ j. HasCycle (RankSet t j) → ⊥) (length added) made.acyclic (λ cycle. no_cycle (graph_cycle t (length added) g made.graph cycle)) k (subst (λ n. k < n) size low);
  unfinished = λ k low. below_more (λ j. IsLast t j → ⊥) (length added) made.unfinished (round_not_last t (length added) edges round some) k (subst (λ n. k < n) size low);
}
  where
    round : IsRound t (length added) edges
    round = new_round t (length added) g edges made.graph fresh

    size : length (added ++ edges ∷ []) ≡ length added + 1
    size = omega (arith, length-append added (edges ∷ []))

-- What a round makes of the graph: the rounds made with it, the graph that follows, and the edges added.
pub record RoundStep (t : TraceValue) (g new : Digraph) (added : List (List Edge)) (edges : List Edge) : Type 0 where
  pub made : AreRoundsMade t new (added ++ edges ∷ [])
  pub follows : FollowsRound t (length added) g new
  pub adds : AddsEdges g new (ListsEdge edges)

-- a round that adds an edge to the graph
pub round_step : (t : TraceValue) (g new : Digraph) (added : List (List Edge)) (edges : List Edge) → AreRoundsMade t g added → IsAcyclic g → AreNewEdges t g edges → 0 < length edges →
    ((u v : ℕ) → RankSet t (length added) u v ⊎ (RankSet t (length added) u v → ⊥)) → AddsEdges g new (ListsEdge edges) → OnlyGrown (IsEdge g) new → RoundStep t g new added edges
round_step t g new added edges made acyclic fresh some decided adds only = record {
  made = made_more t g new added edges made acyclic.none fresh some decided adds;
  follows = record {
    ranked = made.graph;
    kept = λ x y e. (adds.edges x y).1 (inl e);
    added = λ u v more. (adds.edges u v).1 (inr (fresh.all u v more));
    grown = only;
  };
  adds = adds;
}

-- what is added to a graph that was settled is added to the graph before
pub settled_adds : (g settled new : Digraph) (Added : ℕ → ℕ → Type 0) → settled.nodes ≡ g.nodes → ((x y : ℕ) → IsEdge settled x y ↔ IsEdge g x y) → AddsEdges settled new Added → AddsEdges g new Added
settled_adds g settled new Added same_nodes same adds = record {
  nodes = adds.nodes ∙ same_nodes;
  edges = λ x y. (
    λ e. elim ((adds.edges x y).0 e) [ inl before ↦ inl ((same x y).0 before) | inr now ↦ inr now ],
    λ e. (adds.edges x y).1 (elim e [ inl before ↦ inl ((same x y).1 before) | inr now ↦ inr now ]),
  );
}

-- and a number that reaches more than in the one reaches more than in the other
pub settled_grown : (g settled new : Digraph) → ((x y : ℕ) → IsEdge settled x y ↔ IsEdge g x y) → OnlyGrown (IsEdge settled) new → OnlyGrown (IsEdge g) new
settled_grown g settled new same only = λ x more none. only x (more.0, more.1, λ path. more.2 (Reaches-mono (IsEdge settled) (IsEdge g) (λ a b e. (same a b).0 e) x more.0 path)) none

-- The graph has no cycle after a round whose edges close none. Nothing looks for one where the rank set that the round makes is among the first
-- ones, of which none has a cycle.
pub still_acyclic : (t : TraceValue) (g new : Digraph) (added : List (List Edge)) (edges : List Edge) (number acyclic : ℕ) → RoundStep t g new added edges → IsAcyclic g →
    number ≡ length added + 1 → ((k : ℕ) → k < acyclic → HasCycle (RankSet t k) → ⊥) → ((acyclic ≤ number) × ClosesCycle new (ListsEdge edges) → ⊥) → IsAcyclic new
still_acyclic t g new added edges number acyclic step before is known unclosed = record {
  none = λ cycle. ⊎_elim
      (λ (low : number < acyclic). known (length (added ++ edges ∷ [])) (omega (arith, low, is, length-append added (edges ∷ [])))
      (set_cycle t (length (added ++ edges ∷ [])) new step.made.graph cycle))
      (λ (looked : acyclic ≤ number). unclosed (looked, cycle_closed g new (ListsEdge edges) step.adds before.none cycle))
      (cases_lt number acyclic);
}

-- the rounds end with a cycle
pub made_with_cycle : (t : TraceValue) (g : Digraph) (added : List (List Edge)) → AreRoundsMade t g added → ((l : ℕ) → IsUnwritten t l → ⊥) → HasCycle (IsEdge g) →
    IsRankingOf t (record { last = g; added = added })
made_with_cycle t g added made written cycle = record {
  rounds = inr (written, inl (set_cycle t (length added) g made.graph cycle, made.acyclic));
  last = made.graph;
  each = made.each;
}

-- as after a round of which an edge closes one
pub made_then_cycle : (t : TraceValue) (g new : Digraph) (added more : List (List Edge)) (edges : List Edge) → RoundStep t g new added edges → ((l : ℕ) → IsUnwritten t l → ⊥) →
    ClosesCycle new (ListsEdge edges) → more ≡ added ++ edges ∷ [] → IsRankingOf t (record { last = new; added = more })
made_then_cycle t g new added more edges step written closes is =
    made_with_cycle t new more (subst (λ l. AreRoundsMade t new l) (sym is) step.made) written (closed_cycle g new (ListsEdge edges) step.adds closes)

-- or with a round that adds nothing
pub made_without_cycle : (t : TraceValue) (g : Digraph) (added : List (List Edge)) (edges : List Edge) → AreRoundsMade t g added → ((l : ℕ) → IsUnwritten t l → ⊥) →
    (HasCycle (IsEdge g) → ⊥) → AreNewEdges t g edges → length edges ≡ 0 → IsRankingOf t (record { last = g; added = added })
made_without_cycle t g added edges made written no_cycle fresh empty = record {
  rounds = inr (written, inr (acyclic, last, made.unfinished));
  last = made.graph;
  each = made.each;
}
  where
    last : IsLast t (length added)
    last u v (inl e) = e
    last u v (inr more) =
        let here = fresh.all u v (new_same t (λ x y. RankSet t (length added) x y) (IsEdge g) (λ x y. (made.graph.edges x y).1) (λ x y. (made.graph.edges x y).0) u v more) in
        let place : here.0 < length edges = here.1 in
        absurd (omega arith)

    acyclic : (j : ℕ) → HasCycle (RankSet t j) → ⊥
    acyclic j cycle = no_cycle (graph_cycle t (length added) g made.graph (HasCycle-mono (RankSet t j) (RankSet t (length added)) (IsLast-all t (length added) last j) cycle))

-- a rank set that a round adds an edge to stands before the last one that is known to exist
pub made_before_last : (t : TraceValue) (g : Digraph) (added : List (List Edge)) (edges : List Edge) → AreRoundsMade t g added → AreNewEdges t g edges → 0 < length edges →
    length added < (last_exists t).0
made_before_last t g added edges made fresh some =
    before_last t (length added) (round_not_last t (length added) edges (new_round t (length added) g edges made.graph fresh) some)

-- ---- cycles of a graph

-- where no number within the graph reaches itself, there is no cycle
pub no_cycle_within : (g : Digraph) → ((x y : ℕ) → IsEdge g x y → (x < g.nodes) × (y < g.nodes)) → ((y : ℕ) → y < g.nodes → Reaches (IsEdge g) y y → ⊥) → HasCycle (IsEdge g) → ⊥
no_cycle_within g within none cycle =
    let found = (HasCycle-iff (IsEdge g)).0 cycle in
    none found.0 (Reaches-below (IsEdge g) g.nodes within found.0 found.0 found.1).0 found.1

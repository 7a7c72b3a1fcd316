-- The ranks of a trace's edges, round by round.
use Rattle.std.specs.Prelude.{◌≡◌, ◌⊎◌, ℕ, suc, ◌<◌, List, [], ◌∷◌, length, get_or, Contains}
use Rattle.order_graph.specs.Digraphs.{Digraph}
use Rattle.tso_ops.specs.Values.{TraceValue}
use Rattle.tso_model.specs.Ranks.{RankSet, IsRounds}
use Rattle.round_pool.specs.declared.ranked.Edge.{Edge}
use Rattle.round_pool.specs.RankGraphs.{IsRankGraph}

-- What contracts see of the ranks: the graph of the last rank set, and the edges that each round added.
pub record Ranking : Type 0 where
  pub last : Digraph
  pub added : List (List Edge)

-- the number of rounds that were made
abbrev pub rounds_of : Ranking → ℕ
rounds_of r = length r.added

-- the edge from u to v
abbrev pub edge_from : ℕ → ℕ → Edge
edge_from u v = record { from = u; to = v }

-- the list has the edge from u to v
abbrev pub ListsEdge : List Edge → ℕ → ℕ → Type 0
ListsEdge edges u v = Contains edges (edge_from u v)

-- the edges lie between numbers below this one
abbrev pub AreEdgesWithin : ℕ → List Edge → Type 0
AreEdgesWithin nodes edges = (u v : ℕ) → ListsEdge edges u v → (u < nodes) × (v < nodes)

-- the first edge stands before the second: by its first number, then by its second
abbrev pub IsEdgeBefore : Edge → Edge → Type 0
IsEdgeBefore d e = (d.from < e.from) ⊎ ((d.from ≡ e.from) × (d.to < e.to))

-- each edge stands before all that are listed after it
abbrev pub AreEdgesAscending : List Edge → Type 0
AreEdgesAscending [] = Unit {0}
AreEdgesAscending (e ∷ edges) = ((other : Edge) → Contains edges other → IsEdgeBefore e other) × AreEdgesAscending edges

-- The edges are those that the round after rank set k adds to it, in ascending order.
pub record IsRound (t : TraceValue) (k : ℕ) (edges : List Edge) : Type 0 where
  pub all : (u v : ℕ) → RankSet t (suc k) u v → (RankSet t k u v → ⊥) → ListsEdge edges u v
  pub only : (u v : ℕ) → ListsEdge edges u v → RankSet t (suc k) u v × (RankSet t k u v → ⊥)
  pub ascending : AreEdgesAscending edges

-- The rounds and the ranks are the trace's: so many rounds were made as its rounds number says, the last graph is that of its rank set, and each
-- round added the edges of its rank.
pub record IsRankingOf (t : TraceValue) (r : Ranking) : Type 0 where
  pub rounds : IsRounds t (rounds_of r)
  pub last : IsRankGraph t (rounds_of r) r.last
  pub each : (k : ℕ) → k < rounds_of r → IsRound t k (get_or r.added k [])

-- The rows that a round looks at.
use Rattle.std.specs.Prelude.{ℕ, ◌<◌, ◌≤◌, List, Contains, AllPairs}
use Rattle.order_paths.specs.Paths.{Reaches}
use Rattle.order_graph.specs.Digraphs.{Digraph, IsEdge, HasGrown, ReachesMore}
use Rattle.tso_ops.specs.Values.{TraceValue}
use Rattle.tso_ops.specs.Events.{event_total}
use Rattle.tso_model.specs.NewEdges.{IsNew}
use Rattle.round_pool.specs.RankGraphs.{IsRankGraph}

-- The numbers are ascending, each is that of an event, and each number from which a round adds an edge to the graph's is among them.
pub record IsWorkset (t : TraceValue) (g : Digraph) (numbers : List ℕ) : Type 0 where
  pub ascending : AllPairs (λ x y. x < y) numbers
  pub within : (u : ℕ) → Contains numbers u → u ≤ event_total t
  pub whole : (u v : ℕ) → IsNew t (IsEdge g) u v → Contains numbers u

-- no number reaches more over the new graph's edges than over these, but for those that have grown in the new graph
abbrev pub OnlyGrown : (ℕ → ℕ → Type 0) → Digraph → Type 0
OnlyGrown Old new = (x : ℕ) → ReachesMore Old (IsEdge new) x → (HasGrown new x → ⊥) → ⊥

-- The new graph has the edges of the old one, which is that of a rank set, and those that a round adds to it, and what reaches more has grown.
pub record FollowsRound (t : TraceValue) (k : ℕ) (old new : Digraph) : Type 0 where
  pub ranked : IsRankGraph t k old
  pub kept : (x y : ℕ) → IsEdge old x y → IsEdge new x y
  pub added : (u v : ℕ) → IsNew t (IsEdge old) u v → IsEdge new u v
  pub grown : OnlyGrown (IsEdge old) new

-- an edge added leads from a number that its end reaches
abbrev pub ClosesCycle : Digraph → (ℕ → ℕ → Type 0) → Type 0
ClosesCycle g Added = (u : ℕ) × (v : ℕ) × Added u v × Reaches (IsEdge g) v u

-- Graphs of rank sets.
use Rattle.std.specs.Prelude.{◌≡◌, ◌⊎◌, ◌↔◌, ℕ, suc}
use Rattle.order_graph.specs.Digraphs.{Digraph, IsEdge}
use Rattle.tso_ops.specs.Values.{TraceValue}
use Rattle.tso_ops.specs.Events.{event_total}
use Rattle.tso_model.specs.Ranks.{RankSet}

-- The graph has a number for `init` and one for each event, and the edges of rank k or less.
pub record IsRankGraph (t : TraceValue) (k : ℕ) (g : Digraph) : Type 0 where
  pub nodes : g.nodes ≡ suc (event_total t)
  pub edges : (x y : ℕ) → IsEdge g x y ↔ RankSet t k x y

-- The new graph has the old one's nodes, and besides its edges just these.
pub record AddsEdges (old new : Digraph) (Added : ℕ → ℕ → Type 0) : Type 0 where
  pub nodes : new.nodes ≡ old.nodes
  pub edges : (x y : ℕ) → IsEdge new x y ↔ (IsEdge old x y ⊎ Added x y)

-- Graphs of the numbers below a bound.
use Rattle.std.specs.Prelude.{ℕ, ◌<◌, Bool, false, IsTrue, List, [], slice_index_or}
use Rattle.order_paths.specs.Paths.{Reaches}

-- What contracts see of a graph: how many numbers it has; a row of tests for each, which answer whether an edge leads
-- from it to each number; and a row of tests which answer for each number whether it has come to reach more numbers since
-- the graph was settled.
pub record Digraph : Type 0 where
  pub nodes : ℕ
  pub edges : List (List Bool)
  pub grown : List Bool

-- an edge leads from u to v
unfoldable pub IsEdge : Digraph → ℕ → ℕ → Type 0
IsEdge g u v = IsTrue (slice_index_or (slice_index_or g.edges u []) v false)

-- x has come to reach more numbers since the graph was settled
unfoldable pub HasGrown : Digraph → ℕ → Type 0
HasGrown g x = IsTrue (slice_index_or g.grown x false)

-- over the new edges x reaches a number that it doesn't reach over the old ones
abbrev pub ReachesMore : (ℕ → ℕ → Type 0) → (ℕ → ℕ → Type 0) → ℕ → Type 0
ReachesMore Old New x = (y : ℕ) × Reaches New x y × (Reaches Old x y → ⊥)

-- the edges lie below the number of nodes
abbrev pub EdgesWithin : Digraph → Type 0
EdgesWithin g = (x y : ℕ) → IsEdge g x y → (x < g.nodes) × (y < g.nodes)

-- Lists of edges that the steps of a round make, and the graphs that are made of them.
use Rattle.std.specs.Prelude.{◌≡◌, ◌↔◌, ℕ, ◌<◌, ◌≤◌, List, [], length, get_or, Contains}
use Rattle.order_graph.specs.Digraphs.{Digraph, IsEdge}
use Rattle.bitsets.specs.Rows.{IsAscending as IsAscendingRow}
use Rattle.tso_ops.specs.Values.{TraceValue}
use Rattle.tso_model.specs.NewEdges.{IsNew}
use Rattle.round_pool.specs.declared.ranked.Edge.{Edge}
use Rattle.round_pool.specs.Rankings.{ListsEdge, AreEdgesAscending, AreEdgesWithin}

-- each row is ascending, and its numbers lie below this one
pub record AreAscendingBelow (bound : ℕ) (rows : List (List ℕ)) : Type 0 where
  pub ascending : (k : ℕ) → IsAscendingRow (get_or rows k [])
  pub below : (k v : ℕ) → Contains (get_or rows k []) v → v < bound

-- The edges are those from each of the first `count` numbers to the numbers of its row, in ascending order.
pub record AreEdgesOf (numbers : List ℕ) (rows : List (List ℕ)) (count : ℕ) (edges : List Edge) : Type 0 where
  pub all : (k v : ℕ) → k < count → Contains (get_or rows k []) v → ListsEdge edges (get_or numbers k 0) v
  pub only : (u v : ℕ) → ListsEdge edges u v → (k : ℕ) × (k < count) × (get_or numbers k 0 ≡ u) × Contains (get_or rows k []) v
  pub ascending : AreEdgesAscending edges

-- the edges of each list lie between numbers below this one
abbrev pub AreAllWithin : ℕ → List (List Edge) → Type 0
AreAllWithin nodes added = (k : ℕ) → k < length added → AreEdgesWithin nodes (get_or added k [])

-- The graph has the edges of the lists from the one place on and before the other, and no others.
pub record IsGraphOf (nodes : ℕ) (added : List (List Edge)) (first end : ℕ) (g : Digraph) : Type 0 where
  pub nodes_are : g.nodes ≡ nodes
  pub edges : (x y : ℕ) → IsEdge g x y ↔ ((j : ℕ) × (first ≤ j) × (j < end) × ListsEdge (get_or added j []) x y)

-- The graph has the edges of the first graph from this number on that the second lacks.
pub record IsDifferenceFrom (last later : Digraph) (first : ℕ) (g : Digraph) : Type 0 where
  pub nodes_are : g.nodes ≡ last.nodes
  pub edges : (x y : ℕ) → IsEdge g x y ↔ ((first ≤ x) × IsEdge last x y × (IsEdge later x y → ⊥))

-- The edges are those that a round adds to the graph's, in ascending order.
pub record AreNewEdges (t : TraceValue) (g : Digraph) (edges : List Edge) : Type 0 where
  pub all : (u v : ℕ) → IsNew t (IsEdge g) u v → ListsEdge edges u v
  pub only : (u v : ℕ) → ListsEdge edges u v → IsNew t (IsEdge g) u v
  pub ascending : AreEdgesAscending edges

-- The graph that a table of bits keeps.
use Rattle.std.specs.Prelude.{◌==◌, ℕ, ◌+◌, ◌*◌, ◌/◌, ◌%◌, Bool, List, map, replicate, slice_index}
use Rattle.std.specs.Int.{bit_at}
use Rattle.std.specs.List.{range_with_len}
use Rattle.order_graph.specs.Digraphs.{Digraph}

-- the tests of row x of a table of bits
abbrev pub tests_of : List ℕ → ℕ → ℕ → ℕ → List Bool
tests_of table width nodes x = map (λ y. bit_at (slice_index table (x * width + y / 64)) (y % 64) == 1) (range_with_len 0 nodes)

-- the graph that a table of bits keeps, and a row of bits with the numbers that have come to reach more
abbrev pub grown_graph_of : ℕ → ℕ → List ℕ → List ℕ → Digraph
grown_graph_of nodes width table grown = record { nodes = nodes; edges = map (tests_of table width nodes) (range_with_len 0 nodes); grown = tests_of grown width nodes 0 }

-- the settled graph that a table of bits keeps
abbrev pub graph_of : ℕ → ℕ → List ℕ → Digraph
graph_of nodes width table = grown_graph_of nodes width table (replicate width 0)

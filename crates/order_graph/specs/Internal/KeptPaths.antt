-- The tables of edges and paths that a graph and a set of edges keep.
use Rattle.std.specs.Prelude.{◌≡◌, ◌⊎◌, ◌↔◌, ℕ, ◌+◌, ◌*◌, ◌/◌, ◌^◌, ◌<◌, List, length}
use Rattle.order_paths.specs.Paths.{Reaches}
use Rattle.bitsets.specs.Tables.{IsSet}
use Rattle.order_graph.specs.Internal.Tables.{AreTransposed, IsTransitive, Joined}

-- A table of some of the paths of the edges, and of all paths that these join to.
pub record KeepsSomePaths (nodes width : ℕ) (edges paths : List ℕ) : Type 0 where
  pub sized : length paths ≡ nodes * width
  pub sound : (x y : ℕ) → x < nodes → y / 64 < width → IsSet paths width x y → Reaches (Joined edges width nodes) x y
  pub transitive : IsTransitive paths width nodes

-- The same where each path leads to a number that is done.
pub record KeepsPathsToDone (nodes width : ℕ) (edges paths done : List ℕ) : Type 0 where
  pub some : KeepsSomePaths nodes width edges paths
  pub ends : (x y : ℕ) → x < nodes → y / 64 < width → IsSet paths width x y → IsSet done width 0 y

-- A table of edges, that of their paths, and the table of paths transposed.
pub record KeepsAllPaths (nodes width : ℕ) (edges paths transposed : List ℕ) : Type 0 where
  pub small : nodes < 2 ^ 32
  pub fits : width ≡ (nodes + 63) / 64
  pub edges_sized : length edges ≡ nodes * width
  pub edges_within : (x y : ℕ) → x < nodes → y / 64 < width → IsSet edges width x y → y < nodes
  pub paths_transposed : AreTransposed paths transposed width nodes
  pub tells : (x y : ℕ) → x < nodes → y < nodes → IsSet paths width x y ↔ Reaches (Joined edges width nodes) x y

-- A row of bits has a bit for some of the numbers below `nodes`, and for no other.
pub record IsNodeRow (nodes width : ℕ) (row : List ℕ) : Type 0 where
  pub sized : length row ≡ width
  pub within : (x : ℕ) → x / 64 < width → IsSet row width 0 x → x < nodes

-- A table of edges, and two that have at least its paths: row x of the first has what edges lead to from x and from the numbers of that row, and
-- row y of the second has the numbers with a path to y.
pub record Covers (nodes width : ℕ) (edges paths transposed : List ℕ) : Type 0 where
  pub small : nodes < 2 ^ 32
  pub fits : width ≡ (nodes + 63) / 64
  pub edges_sized : length edges ≡ nodes * width
  pub edges_within : (x y : ℕ) → x < nodes → y / 64 < width → IsSet edges width x y → y < nodes
  pub paths_sized : length paths ≡ nodes * width
  pub transposed_sized : length transposed ≡ nodes * width
  pub onward : (x y z : ℕ) → x < nodes → (y ≡ x) ⊎ IsSet paths width x y → Joined edges width nodes y z → IsSet paths width x z
  pub back : (x y : ℕ) → x < nodes → y < nodes → Reaches (Joined edges width nodes) x y → IsSet transposed width y x

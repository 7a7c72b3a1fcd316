-- Tables of edges and of paths, with a row for each number.
use Rattle.std.specs.Prelude.{◌≡◌, ◌⊎◌, ◌↔◌, ℕ, ◌+◌, ◌*◌, ◌/◌, ◌^◌, ◌<◌, List, length}
use Rattle.bitsets.specs.Tables.{IsSet}

-- y is the number itself, or its bit is set in the number's row
abbrev pub IsSelfOrSet : List ℕ → ℕ → ℕ → ℕ → Type 0
IsSelfOrSet table width v y = (y ≡ v) ⊎ IsSet table width v y

-- A table with a row for each number below `nodes`, whose columns are these numbers too.
pub record IsTable (nodes width : ℕ) (table : List ℕ) : Type 0 where
  pub small : nodes < 2 ^ 32
  pub fits : width ≡ (nodes + 63) / 64
  pub sized : length table ≡ nodes * width
  pub within : (x y : ℕ) → x < nodes → y / 64 < width → IsSet table width x y → y < nodes

-- two tables over the numbers below `nodes`, of which each is the other with rows for columns
pub record AreTransposed (table transposed : List ℕ) (width nodes : ℕ) : Type 0 where
  pub table_sized : length table ≡ nodes * width
  pub transposed_sized : length transposed ≡ nodes * width
  pub within : (x y : ℕ) → x < nodes → y / 64 < width → IsSet table width x y → y < nodes
  pub transposed_within : (x y : ℕ) → x < nodes → y / 64 < width → IsSet transposed width x y → y < nodes
  pub same : (x y : ℕ) → x < nodes → y < nodes → IsSet transposed width y x ↔ IsSet table width x y

-- where x leads to y and y to z, x leads to z
pub record IsTransitive (table : List ℕ) (width nodes : ℕ) : Type 0 where
  pub joins : (x y z : ℕ) → x < nodes → y < nodes → z < nodes → IsSet table width x y → IsSet table width y z → IsSet table width x z

-- an edge of the table that leads to a number of the mask, a row of bits
pub record IsMaskedEdge (edges mask : List ℕ) (width x y : ℕ) : Type 0 where
  pub edge : IsSet edges width x y
  pub within : IsSet mask width 0 y

-- such an edge between numbers below `nodes`
abbrev pub JoinedWithin : List ℕ → List ℕ → ℕ → ℕ → ℕ → ℕ → Type 0
JoinedWithin edges mask width nodes x y = (x < nodes) × (y < nodes) × IsMaskedEdge edges mask width x y

-- an edge of the table between numbers below `nodes`
abbrev pub Joined : List ℕ → ℕ → ℕ → ℕ → ℕ → Type 0
Joined edges width nodes x y = (x < nodes) × (y < nodes) × IsSet edges width x y

-- Flat tables of bits: rows of 64-bit words, one after another.
use Rattle.std.specs.Prelude.{◌≡◌, ◌⊎◌, ◌↔◌, ℕ, ◌+◌, ◌*◌, ◌/◌, ◌%◌, ◌<◌, List, slice_index}
use Rattle.bitsets.specs.Rows.{HasBit}

-- the bit of row x and column y is set, where a row has this many words
unfoldable pub IsSet : List ℕ → ℕ → ℕ → ℕ → Type 0
IsSet table width x y = HasBit (slice_index table (x * width + y / 64)) (y % 64)

-- the new table has the bits of the old one and the bits given
pub record Adds (old new : List ℕ) (width : ℕ) (Given : ℕ → ℕ → Type 0) : Type 0 where
  pub bits : (x y : ℕ) → y / 64 < width → IsSet new width x y ↔ (IsSet old width x y ⊎ Given x y)

-- the new table has the bits of the old one, without this one
pub record Loses (old new : List ℕ) (width u v : ℕ) : Type 0 where
  pub bits : (x y : ℕ) → y / 64 < width → IsSet new width x y ↔ (IsSet old width x y × ((x ≡ u) × (y ≡ v) → ⊥))

-- no column is set in both rows
abbrev pub NoneShared : List ℕ → ℕ → List ℕ → ℕ → ℕ → Type 0
NoneShared table x other row width = (y : ℕ) → y / 64 < width → IsSet table width x y → IsSet other width row y → ⊥

-- y is the first column that is set in both rows
pub record IsFirstShared (table : List ℕ) (x : ℕ) (other : List ℕ) (row width y : ℕ) : Type 0 where
  pub column : y / 64 < width
  pub first : IsSet table width x y
  pub second : IsSet other width row y
  pub least : (z : ℕ) → z < y → IsSet table width x z → IsSet other width row z → ⊥

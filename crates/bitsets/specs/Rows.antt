-- Rows of bits, in words of 64: which numbers a row has, and the list of them.
use Rattle.std.specs.Prelude.{◌≡◌, ◌⊎◌, ◌↔◌, ℕ, ◌/◌, ◌%◌, ◌<◌, List, [], ◌∷◌, Contains, slice_index}
use Rattle.std.specs.Int.{bit_at}

-- bit k of the word is set
unfoldable pub HasBit : ℕ → ℕ → Type 0
HasBit word k = bit_at word k ≡ 1

-- the number's bit is set in a row of words; a row has no bits past its words
abbrev pub HasNumber : List ℕ → ℕ → Type 0
HasNumber row v = HasBit (slice_index row (v / 64)) (v % 64)

-- The row has the numbers with this, and no others.
pub record IsMask (row : List ℕ) (Of : ℕ → Type 0) : Type 0 where
  pub bits : (v : ℕ) → HasNumber row v ↔ Of v

-- Numbers were marked in a row of bits: these, and no others.
pub record Marks (old new : List ℕ) (Of : ℕ → Type 0) : Type 0 where
  pub marked : (v : ℕ) → HasNumber new v ↔ (HasNumber old v ⊎ Of v)

-- each number is less than all that stand after it
abbrev pub IsAscending : List ℕ → Type 0
IsAscending [] = Unit {0}
IsAscending (x ∷ xs) = ((y : ℕ) → Contains xs y → x < y) × IsAscending xs

-- The list has just the numbers with this, ascending.
pub record IsListOf (list : List ℕ) (Of : ℕ → Type 0) : Type 0 where
  pub all : (v : ℕ) → Of v → Contains list v
  pub only : (v : ℕ) → Contains list v → Of v
  pub ascending : IsAscending list

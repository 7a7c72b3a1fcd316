-- Greatest places.
use Rattle.std.specs.Prelude.{◌≡◌, ◌⊎◌, ℕ, ◌≤◌, List, slice_index}

-- The greatest place, by a table, of the numbers with a property; 0 where no number has it.
pub record IsMost (P : ℕ → Type 0) (places : List ℕ) (m : ℕ) : Type 0 where
  pub most : (u : ℕ) → P u → slice_index places u ≤ m
  pub some : (m ≡ 0) ⊎ ((u : ℕ) × P u × (m ≡ slice_index places u))

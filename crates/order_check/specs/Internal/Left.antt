-- The events that aren't passed.
use Rattle.std.specs.Prelude.{ℕ, ◌≤◌, List}
use Rattle.bitsets.specs.Rows.{HasNumber}

-- u is one of the row's numbers up to n that are in the next two rows and not in the last
abbrev pub IsLeftIn : List ℕ → List ℕ → List ℕ → List ℕ → ℕ → ℕ → Type 0
IsLeftIn left one two other n u = (u ≤ n) × HasNumber left u × HasNumber one u × HasNumber two u × (HasNumber other u → ⊥)

-- How far the list of a row's numbers has come.
use Rattle.std.specs.Prelude.{ℕ, ◌<◌, List}
use Rattle.bitsets.specs.Rows.{IsListOf}

-- the list has just the numbers below n with this, ascending
abbrev pub IsListBelow : List ℕ → (ℕ → Type 0) → ℕ → Type 0
IsListBelow list Of n = IsListOf list (λ v. (v < n) × Of v)

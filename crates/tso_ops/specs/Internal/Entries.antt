-- How far the check of the entries of first values has come.
use Rattle.std.specs.Prelude.{◌≡◌, ℕ, List, nat_le, nat_lt}
use Rattle.std.specs.List.{list_any}

-- the addresses of the entries end below `least`, which is one more than the last of them, or 0
abbrev pub EndsBelow : List (ℕ × ℕ) → ℕ → Type 0
EndsBelow before least = (a : ℕ) → list_any (λ other. nat_le a other.0) before ≡ nat_lt a least

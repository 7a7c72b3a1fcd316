-- Numbers in texts: which tokens of a line are one.
use Rattle.std.specs.Prelude.{ℕ, ◌^◌, ◌==◌, ◌&&◌, Bool, true, false, not, nat_lt, List, [], ◌∷◌, Option, Some, None, if◌then◌else◌}
use Rattle.std.specs.List.{list_all}
use Rattle.std.specs.Char.{is_ascii_digit}
use Rattle.std.specs.Str.Parse.{digits_value}

-- not empty, and no 0 before another digit
abbrev pub is_canonical : List ℕ → Bool
is_canonical [] = false
is_canonical (d ∷ []) = true
is_canonical (d ∷ e ∷ ds) = not (d == 48)

-- digits without a leading zero, of a value that 64 bits hold
abbrev pub is_numeral : List ℕ → Bool
is_numeral token = list_all is_ascii_digit token && is_canonical token && nat_lt (digits_value 10 token) (2 ^ 64)

-- the number that a token spells
unfoldable pub number : List ℕ → Option ℕ
number token = if is_numeral token then Some (digits_value 10 token) else None

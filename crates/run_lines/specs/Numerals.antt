-- Which tokens are a number: decimal, or hexadecimal after `0x`.
use Rattle.std.specs.Prelude.{ℕ, ◌^◌, ◌&&◌, ◌||◌, Bool, true, false, nat_lt, nat_le, List, [], ◌∷◌, drop, take, Option, Some, None, codes, if◌then◌else◌}
use Rattle.std.specs.List.{list_all}
use Rattle.std.specs.Str.{bytes_eq}
use Rattle.std.specs.Str.Parse.{digits_value}
use Rattle.line_text.specs.Numbers.{number}

-- the byte is a digit, or a small letter from a to f
abbrev pub is_hexadecimal_digit : ℕ → Bool
is_hexadecimal_digit b = (nat_le 48 b && nat_le b 57) || (nat_le 97 b && nat_le b 102)

-- there is a byte
abbrev pub is_some_byte : List ℕ → Bool
is_some_byte [] = false
is_some_byte (b ∷ bs) = true

-- the number that hexadecimal digits spell, one at least, where 64 bits hold it
unfoldable pub hexadecimal : List ℕ → Option ℕ
hexadecimal digits =
    if is_some_byte digits && list_all is_hexadecimal_digit digits && nat_lt (digits_value 16 digits) (2 ^ 64) then Some (digits_value 16 digits) else None

-- The number that a token spells: hexadecimal digits after `0x`, with or without leading zeros, or decimal ones without them; within 64 bits.
abbrev pub number_spelled : List ℕ → Option ℕ
number_spelled token = if bytes_eq (take 2 token) (codes "0x") then hexadecimal (drop 2 token) else number token

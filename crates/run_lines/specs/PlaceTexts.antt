-- Which tokens are a place: an address, or an address and how many bytes, as `0x20/4`.
use Rattle.std.specs.Prelude.{ℕ, ◌+◌, ◌^◌, ◌==◌, ◌&&◌, ◌||◌, Bool, List, take, drop, Option, None, Some, nat_le, option_map, if◌then◌else◌}
use Rattle.std.specs.List.{position}
use Rattle.run_lines.specs.Numerals.{number_spelled}

-- a place that isn't a location has so many bytes
abbrev pub is_byte_count : ℕ → Bool
is_byte_count n = (n == 1) || (n == 2) || (n == 4) || (n == 8)

-- the address and the width of so many bytes from an address on, which lie below 2^64
abbrev pub bytes_at : Option ℕ → Option ℕ → Option (ℕ × ℕ)
bytes_at None n = None
bytes_at (Some a) None = None
bytes_at (Some a) (Some n) = if is_byte_count n && nat_le (a + n) (2 ^ 64) then Some (a, n) else None

-- the address and the width that a token spells whose first slash is at this index: the width is 0 where it has none
abbrev pub place_cut : List ℕ → Option ℕ → Option (ℕ × ℕ)
place_cut token None = option_map (λ a. (a, 0)) (number_spelled token)
place_cut token (Some i) = bytes_at (number_spelled (take i token)) (number_spelled (drop (i + 1) token))

-- the address and the width that a token spells
abbrev pub place_spelled : List ℕ → Option (ℕ × ℕ)
place_spelled token = place_cut token (position (λ b. b == 47) token)

-- How the characters of a text are escaped where they would break a line or a string of JSON (RFC 8259, section 7).
use Rattle.std.specs.Prelude.{ℕ, ◌/◌, ◌%◌, ◌==◌, List, ◌++◌, chars, codes, encode_utf8, flat_map, nat_lt, slice_index, if◌then◌else◌}

-- a hexadecimal digit
abbrev pub hexadecimal_digit : ℕ → List ℕ
hexadecimal_digit d = encode_utf8 (slice_index (codes "0123456789abcdef") d)

-- a control character, one below 32: by its number, in four hexadecimal digits
abbrev pub control_escape : ℕ → List ℕ
control_escape c = codes "\\u00" ++ hexadecimal_digit (c / 16) ++ hexadecimal_digit (c % 16)

-- a character that stands for itself, unless it is a control character
abbrev pub printable : ℕ → List ℕ
printable c = if nat_lt c 32 then control_escape c else encode_utf8 c

-- in a string of JSON a quote (34) and a backslash (92) are escaped too
abbrev pub json_character : ℕ → List ℕ
json_character c = if c == 34 then codes "\\\"" else if c == 92 then codes "\\\\" else printable c

-- a text, character by character
abbrev pub json_text : List ℕ → List ℕ
json_text text = flat_map json_character (chars text)

-- How wide places are.
use Rattle.std.specs.Prelude.{ℕ, zero, suc, ◌/◌, ◌%◌, ◌==◌, if◌then◌else◌}

-- how many cells a place of this width has: its bytes, or one for a location
abbrev pub cells_of : ℕ → ℕ
cells_of width = if width == 0 then 1 else width

-- what one cell of a place of this width holds of a value: its lowest byte, or the whole value of a location
abbrev pub low_part : ℕ → ℕ → ℕ
low_part width value = if width == 0 then value else value % 256

-- what is left of a value above so many bytes
abbrev pub above_bytes : ℕ → ℕ → ℕ
above_bytes zero value = value
above_bytes (suc count) value = above_bytes count (value / 256)

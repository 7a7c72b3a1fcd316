-- Bytes and locations, and how values lie in them.
use Rattle.std.specs.Prelude.{ℕ, zero, suc, ◌+◌, ◌-◌, ◌/◌, ◌==◌, ◌&&◌, Bool, nat_lt, nat_le, List, [], ◌∷◌, if◌then◌else◌}
use Rattle.run_steps.specs.declared.places.Place.{Place}
use Rattle.run_steps.specs.Widths.{cells_of, low_part}

-- how many cells a place has
abbrev pub cell_count : Place → ℕ
cell_count place = cells_of place.width

-- the cell is one of the place's
abbrev pub covers : Place → ℕ → Bool
covers place cell = nat_le place.address cell && nat_lt (cell - place.address) (cell_count place)

-- the two places share a cell: one of them has the first cell of the other
abbrev pub overlaps : Place → Place → Bool
overlaps a b = if nat_le a.address b.address then nat_lt (b.address - a.address) (cell_count a) else nat_lt (a.address - b.address) (cell_count b)

-- what so many cells of a place of this width hold of a value, the lowest byte first
abbrev pub parts_from : ℕ → ℕ → ℕ → List ℕ
parts_from width zero value = []
parts_from width (suc count) value = low_part width value ∷ parts_from width count (value / 256)

-- what the cells of the place hold of a value
abbrev pub cell_parts : Place → ℕ → List ℕ
cell_parts place value = parts_from place.width (cell_count place) value

-- the two are one place
abbrev pub is_place : Place → Place → Bool
is_place a b = (a.address == b.address) && (a.width == b.width)

-- all cells of the first place are cells of the second
abbrev pub lies_in : Place → Place → Bool
lies_in a b = nat_le b.address a.address && nat_le (a.address + cell_count a) (b.address + cell_count b)

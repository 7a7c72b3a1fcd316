-- How the accesses of a log whose places are bytes are cut: at each boundary of a place, so that two pieces have the same bytes, or none in common.
use Rattle.std.specs.Prelude.{ℕ, zero, suc, ◌+◌, ◌-◌, ◌/◌, ◌%◌, ◌^◌, ◌==◌, Bool, true, false, cond, nat_eq, List, [], ◌∷◌, map}
use Rattle.std.specs.List.{flat_map, list_any}
use Rattle.run_lines.specs.declared.arguments.Widths.{Widths}
use Rattle.run_lines.specs.declared.arguments.Widths.TheVariants.{Bytes, Locations, Unseen}
use Rattle.log_text.specs.declared.lines.LogLine.{LogLine}
use Rattle.log_text.specs.declared.lines.LogLine.TheVariants.{Note, Pso, First, Issued, Unknown, Memory, End}
use Rattle.log_text.specs.declared.lines.SaidLine.{SaidLine}
use Rattle.log_text.specs.declared.logs.LogOperation.{LogOperation}
use Rattle.log_text.specs.declared.logs.LogOperation.TheVariants.{Ld, St, Sw, Mb, Sb}

-- ---- places

-- where the operation is: 0 of a barrier
abbrev pub address_of_operation : LogOperation → ℕ
address_of_operation (Ld a r) = a
address_of_operation (St a v) = a
address_of_operation (Sw a r v) = a
address_of_operation Mb = 0
address_of_operation Sb = 0

-- the address that the line names, 0 where it names none
abbrev pub address_in : LogLine → ℕ
address_in Note = 0
address_in Pso = 0
address_in (First a v) = a
address_in (Issued p x) = address_of_operation x
address_in (Unknown p a) = a
address_in Memory = 0
address_in End = 0

-- the boundaries of so many bytes from an address on, which are where the first of them is and where the next one would be; a location has none
abbrev pub boundaries : ℕ → ℕ → List ℕ
boundaries a zero = []
boundaries a (suc count) = a ∷ (a + suc count) ∷ []

-- those of the line's place
abbrev pub boundaries_in : SaidLine → List ℕ
boundaries_in s = boundaries (address_in s.line) s.width

-- the places of such a text are bytes
abbrev pub has_bytes : Widths → Bool
has_bytes Unseen = false
has_bytes Locations = false
has_bytes Bytes = true

-- the boundaries of all places of these lines
abbrev pub boundaries_of_lines : Widths → List SaidLine → List ℕ
boundaries_of_lines widths lines = cond (has_bytes widths) (flat_map boundaries_in lines) []

-- ---- pieces

abbrev pub is_boundary : List ℕ → ℕ → Bool
is_boundary cuts b = list_any (nat_eq b) cuts

-- The pieces, each by its address and how many bytes it has, of the bytes from `start` on: so many stand before address b, with no boundary among
-- them, and these from b on are still to be cut.
unfoldable pub pieces_from : List ℕ → ℕ → ℕ → ℕ → ℕ → List (ℕ × ℕ)
pieces_from cuts start count b zero = (start, count) ∷ []
pieces_from cuts start count b (suc more) =
    cond (is_boundary cuts b) ((start, count) ∷ pieces_from cuts b 1 (suc b) more) (pieces_from cuts start (suc count) (suc b) more)

-- those of a place of this width: a location is one, of 0 bytes
abbrev pub pieces : List ℕ → ℕ → ℕ → List (ℕ × ℕ)
pieces cuts a zero = (a, 0) ∷ []
pieces cuts a (suc more) = pieces_from cuts a 1 (suc a) more

-- what a piece of a place at address a holds of the place's value, little-endian
abbrev pub piece_value : ℕ → ℕ → ℕ × ℕ → ℕ
piece_value a v piece = cond (piece.1 == 0) v ((v / 256 ^ (piece.0 - a)) % 256 ^ piece.1)

-- ---- lines

-- what the operation does to a piece of its place: a swap swaps it
abbrev pub operation_on_piece : LogOperation → ℕ × ℕ → LogOperation
operation_on_piece (Ld a r) piece = Ld piece.0 (piece_value a r piece)
operation_on_piece (St a v) piece = St piece.0 (piece_value a v piece)
operation_on_piece (Sw a r v) piece = Sw piece.0 (piece_value a r piece) (piece_value a v piece)
operation_on_piece Mb piece = Mb
operation_on_piece Sb piece = Sb

-- what the line says of a piece of its place
abbrev pub line_on_piece : LogLine → ℕ × ℕ → LogLine
line_on_piece Note piece = Note
line_on_piece Pso piece = Pso
line_on_piece (First a v) piece = First piece.0 (piece_value a v piece)
line_on_piece (Issued p x) piece = Issued p (operation_on_piece x piece)
line_on_piece (Unknown p a) piece = Unknown p piece.0
line_on_piece Memory piece = Memory
line_on_piece End piece = End

-- what the line says, piece by piece
abbrev pub split_line : List ℕ → SaidLine → List LogLine
split_line cuts s = map (line_on_piece s.line) (pieces cuts (address_in s.line) s.width)

-- what the lines say, where their places are cut at the boundaries of all of them
abbrev pub split_lines : Widths → List SaidLine → List LogLine
split_lines widths lines = flat_map (split_line (boundaries_of_lines widths lines)) lines

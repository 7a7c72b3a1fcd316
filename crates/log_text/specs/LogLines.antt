-- What a line says to a log.
use Rattle.std.specs.Str.{bytes_eq}
use Rattle.std.specs.Prelude.{ℕ, ◌==◌, ◌||◌, Bool, List, [], ◌∷◌, Option, None, Some, Result, Ok, Err, codes, slice_get, if◌then◌else◌}
use Rattle.tso_text.specs.Numbers.{number_at}
use Rattle.tso_text.specs.declared.faults.Why.{Why}
use Rattle.tso_text.specs.declared.faults.Why.TheVariants.{MixedWidths, Widths as WhyWidths}
use Rattle.run_lines.specs.declared.arguments.Widths.{Widths}
use Rattle.run_lines.specs.declared.arguments.Widths.TheVariants as widths
use Rattle.run_lines.specs.Lines.{LineNumbers, note, pso, first, step, finish, line_read}
use Rattle.log_text.specs.declared.logs.LogOperation.TheVariants.{Ld, St, Sw, Mb, Sb}
use Rattle.log_text.specs.declared.lines.LogLine.{LogLine}
use Rattle.log_text.specs.declared.lines.LogLine.TheVariants.{Note, Pso, First, Issued, Unknown, Memory, End}
use Rattle.log_text.specs.declared.lines.SaidLine.{SaidLine}

-- the keyword of a load, which may reserve its place
abbrev pub is_load_word : List ℕ → Bool
is_load_word word = bytes_eq word (codes "ld") || bytes_eq word (codes "lr")

-- the keyword of a store, which waits or reaches memory at once
abbrev pub is_store_word : List ℕ → Bool
is_store_word word = bytes_eq word (codes "st") || bytes_eq word (codes "wr") || bytes_eq word (codes "sc")

-- What a step of processor p says, by its keyword and its numbers: the address and the width of its place, and its values. When a store that waits
-- reaches memory, and what memory holds at the end, a log doesn't say.
abbrev pub step_told : ℕ → List ℕ → List ℕ → LogLine
step_told p word numbers =
    if is_load_word word then Issued p (Ld (number_at numbers 0) (number_at numbers 2))
    else if is_store_word word then Issued p (St (number_at numbers 0) (number_at numbers 2))
    else if bytes_eq word (codes "sw") then Issued p (Sw (number_at numbers 0) (number_at numbers 2) (number_at numbers 3))
    else if bytes_eq word (codes "mb") then Issued p Mb
    else if bytes_eq word (codes "stbar") then Issued p Sb
    else if bytes_eq word (codes "un") then Unknown p (number_at numbers 0)
    else Memory

-- what a line of a run says
abbrev pub line_told : LineNumbers → LogLine
line_told note = Note
line_told pso = Pso
line_told (first numbers) = First (number_at numbers 0) (number_at numbers 2)
line_told (step p word numbers) = step_told p word numbers
line_told finish = End

-- of such a line a log takes nothing
abbrev pub is_memory_word : List ℕ → Bool
is_memory_word word = bytes_eq word (codes "dr") || bytes_eq word (codes "last")

-- The width of the place of which a line says something to a log: 0 of a location, and where there is no such place.
abbrev pub width_told : LineNumbers → ℕ
width_told note = 0
width_told pso = 0
width_told (first numbers) = number_at numbers 1
width_told (step p word numbers) = if is_memory_word word then 0 else number_at numbers 1
width_told finish = 0

abbrev pub said_told : LineNumbers → SaidLine
said_told numbers = record { line = line_told numbers; width = width_told numbers }

-- the refusal of a line in a text of such places: where they are locations, a place with a width has a name of its own
abbrev pub refusal_told : Widths → Why → Why
refusal_told widths.Locations MixedWidths = WhyWidths
refusal_told before why = why

abbrev pub result_told : Widths → Result LineNumbers Why → Result SaidLine Why
result_told before (Err why) = Err (refusal_told before why)
result_told before (Ok line) = Ok (said_told line)

-- what a line says, or its refusal, in a text of such places
unfoldable pub line_said : Widths → List ℕ → Result SaidLine Why
line_said before line = result_told before (line_read before line)

-- ---- which places a text has

-- the width that a line names first
abbrev pub width_named : LineNumbers → Option ℕ
width_named note = None
width_named pso = None
width_named (first numbers) = slice_get numbers 1
width_named (step p word numbers) = slice_get numbers 1
width_named finish = None

-- locations have no width
abbrev pub widths_named : Option ℕ → Widths → Widths
widths_named None later = later
widths_named (Some width) later = if width == 0 then widths.Locations else widths.Bytes

abbrev pub widths_read : Result LineNumbers Why → Widths → Widths
widths_read (Err why) later = widths.Unseen
widths_read (Ok line) later = widths_named (width_named line) later

-- The places of a text are as its first one, where no line before it is refused.
abbrev pub widths_of_texts : List (List ℕ) → Widths
widths_of_texts [] = widths.Unseen
widths_of_texts (text ∷ texts) = widths_read (line_read widths.Unseen text) (widths_of_texts texts)

-- What a line of a run says.
use Rattle.std.specs.Prelude.{ℕ, ◌<◌, ◌||◌, not, Bool, nat_lt, List, [], ◌∷◌, Option, None, Some, Result, Ok, Err, codes, if◌then◌else◌}
use Rattle.std.specs.List.{list_all}
use Rattle.std.specs.Str.{bytes_eq}
use Rattle.line_text.specs.Lines.{tokens_of}
use Rattle.line_text.specs.Results.{◌>>=◌}
use Rattle.run_steps.specs.declared.places.Place.{Place}
use Rattle.run_steps.specs.declared.steps.RunStep.{RunStep}
use Rattle.run_steps.specs.declared.steps.RunStep.TheVariants.{Load, Store, Drain, Write, Swap, Reserve, StoreReserved, Membar, Stbar, Unknown, Last}
use Rattle.tso_text.specs.declared.faults.Why.{Why}
use Rattle.tso_text.specs.declared.faults.Why.TheVariants.{BadLine, BadNumber}
use Rattle.run_lines.specs.declared.arguments.Widths.{Widths}
use Rattle.run_lines.specs.declared.lines.RunText.{RunText}
use Rattle.run_lines.specs.declared.lines.RunText.TheVariants as text
use Rattle.run_lines.specs.Arguments.{all_said, place_alone, place_and_value, place_and_values}
use Rattle.run_lines.specs.Numerals.{number_spelled}
use Rattle.run_lines.specs.Tags.{before_tag, begins_tag}

-- ---- steps, in words and numbers

-- the keyword of a step
abbrev pub step_word : RunStep → List ℕ
step_word (Load place v) = codes "ld"
step_word (Store place v) = codes "st"
step_word (Drain at v) = codes "dr"
step_word (Write place v) = codes "wr"
step_word (Swap place r v) = codes "sw"
step_word (Reserve place v) = codes "lr"
step_word (StoreReserved place v) = codes "sc"
step_word Membar = codes "mb"
step_word Stbar = codes "stbar"
step_word (Unknown place) = codes "un"
step_word (Last place v) = codes "last"

-- a place's address and width, and these
abbrev pub with_place : Place → List ℕ → List ℕ
with_place place numbers = place.address ∷ place.width ∷ numbers

abbrev pub drain_numbers : Option Place → Option ℕ → List ℕ
drain_numbers None None = []
drain_numbers None (Some v) = v ∷ []
drain_numbers (Some place) None = with_place place []
drain_numbers (Some place) (Some v) = with_place place (v ∷ [])

-- the numbers of a step: its place, and its values
abbrev pub numbers_of_step : RunStep → List ℕ
numbers_of_step (Load place v) = with_place place (v ∷ [])
numbers_of_step (Store place v) = with_place place (v ∷ [])
numbers_of_step (Drain at v) = drain_numbers at v
numbers_of_step (Write place v) = with_place place (v ∷ [])
numbers_of_step (Swap place r v) = with_place place (r ∷ v ∷ [])
numbers_of_step (Reserve place v) = with_place place (v ∷ [])
numbers_of_step (StoreReserved place v) = with_place place (v ∷ [])
numbers_of_step Membar = []
numbers_of_step Stbar = []
numbers_of_step (Unknown place) = with_place place []
numbers_of_step (Last place v) = with_place place (v ∷ [])

-- the numbers of a step that is read
abbrev pub step_left : Result RunStep Why → Result (List ℕ) Why
step_left (Err why) = Err why
step_left (Ok step) = Ok (numbers_of_step step)

-- ---- what is said after a processor

-- after the keyword stand a place and a value
abbrev pub is_access : List ℕ → Bool
is_access word = bytes_eq word (codes "ld") || bytes_eq word (codes "st") || bytes_eq word (codes "wr") || bytes_eq word (codes "lr") || bytes_eq word (codes "sc") || bytes_eq word (codes "last")

-- after `dr`: nothing, a place, or a place and a value
abbrev pub drain_said : Widths → List (List ℕ) → Result (List ℕ) Why
drain_said before [] = Ok []
drain_said before (part ∷ []) = place_alone before (part ∷ [])
drain_said before (part ∷ other ∷ parts) = place_and_value before (part ∷ other ∷ parts)

-- the numbers after a keyword
unfoldable pub numbers_said : Widths → List ℕ → List (List ℕ) → Result (List ℕ) Why
numbers_said before word parts =
    if is_access word then place_and_value before parts
    else if bytes_eq word (codes "dr") then drain_said before parts
    else if bytes_eq word (codes "sw") then place_and_values before parts
    else if bytes_eq word (codes "un") then place_alone before parts
    else if bytes_eq word (codes "mb") || bytes_eq word (codes "stbar") then all_said [] parts
    else Err BadLine

-- the keyword of a drain
abbrev pub word_of_drain : List ℕ
word_of_drain = codes "dr"

-- ---- a line

-- what a line says, in words and numbers: of a step the processor, the keyword and the numbers
pub data LineNumbers : Type 0 where
  note : LineNumbers
  pso : LineNumbers
  first : List ℕ → LineNumbers
  step : ℕ → List ℕ → List ℕ → LineNumbers
  finish : LineNumbers

abbrev pub text_numbers : RunText → LineNumbers
text_numbers text.Note = note
text_numbers text.Pso = pso
text_numbers (text.First place v) = first (with_place place (v ∷ []))
text_numbers (text.Step p s) = step p (step_word s) (numbers_of_step s)
text_numbers text.End = finish

-- a step is of a processor up to 4,095
abbrev pub HasProcessor : RunText → Type 0
HasProcessor text.Note = Unit {0}
HasProcessor text.Pso = Unit {0}
HasProcessor (text.First place v) = Unit {0}
HasProcessor (text.Step p s) = p < 4096
HasProcessor text.End = Unit {0}

-- those of a line that is read
abbrev pub line_left : Result RunText Why → Result LineNumbers Why
line_left (Err why) = Err why
line_left (Ok said) = Ok (text_numbers said)

-- the processor that a part is
abbrev pub processor_read : Option ℕ → Result ℕ Why
processor_read None = Err BadLine
processor_read (Some p) = if nat_lt 4095 p then Err BadNumber else Ok p

-- what stands after a processor: a keyword, and its place and values
abbrev pub keyword_said : Widths → ℕ → List (List ℕ) → Result LineNumbers Why
keyword_said before p [] = Err BadLine
keyword_said before p (word ∷ parts) = numbers_said before word parts >>= λ numbers. Ok (step p word numbers)

-- what the parts of a line say: `init` and a first value, or a processor and what it did
unfoldable pub tokens_read : Widths → List (List ℕ) → Result LineNumbers Why
tokens_read before [] = Err BadLine
tokens_read before (word ∷ parts) =
    if bytes_eq word (codes "init") then place_and_value before parts >>= (λ numbers. Ok (first numbers))
    else processor_read (number_spelled word) >>= λ p. keyword_said before p parts

-- what a line without its tag says
unfoldable pub parts_said : Widths → List ℕ → Result LineNumbers Why
parts_said before said = if bytes_eq said (codes "model pso") then Ok pso else if bytes_eq said (codes "end") then Ok finish else tokens_read before (tokens_of said)

-- the line is ASCII
abbrev pub is_plain : List ℕ → Bool
is_plain line = list_all (λ b. nat_lt b 128) line

-- what a line says, or its refusal, in a text whose places were these before
abbrev pub line_read : Widths → List ℕ → Result LineNumbers Why
line_read before line = if not (is_plain line) then Err BadLine else if begins_tag line then Ok note else parts_said before (before_tag line)

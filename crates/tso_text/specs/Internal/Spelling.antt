-- How a text is refused: over the whole text, by its lines, for any format of texts.
use Rattle.std.specs.Prelude.{◌≡◌, ℕ, suc, ◌&&◌, Bool, true, false, nat_lt, List, [], ◌∷◌, ◌++◌, length, drop, Option, Some, None, Result, Ok, Err, if◌then◌else◌}
use Rattle.std.specs.List.{flat_map}
use Rattle.line_text.specs.Lines.{parts_of, tokens_of, is_empty}
use Rattle.tso_ops.specs.Settings.{SettingValue}
use Rattle.tso_text.specs.declared.faults.Why.{Why}
use Rattle.tso_text.specs.declared.faults.Why.TheVariants.{BadLine, MissingEnd, AfterEnd, TooLong}
use Rattle.tso_text.specs.declared.lines.Line.{Line}
use Rattle.tso_text.specs.declared.lines.Line.TheVariants.{Proc, Item, End}
use Rattle.tso_text.specs.Lines.{whole_lines}
use Rattle.tso_text.specs.Texts.{text_byte_limit}
use Rattle.tso_text.specs.Internal.LineReadings.{fault_of, line_fault_after}

-- ---- how texts are written

-- The lines that a text begins with: the setting that they say, and for each of them its fault, if it has one.
pub record Preamble : Type 0 where
  pub setting : SettingValue
  pub faults : List (Option Why)

-- A grammar of lines that make lists of items. A text that has no lines for lists has its one list from the start.
pub record Grammar (X : Type 0) : Type 0 where
  pub start : List (List X)
  -- what the tokens of a line say, or their fault: BadLine or BadNumber
  pub said_by : List (List ℕ) → Result (Line X) Why
  -- the fault of the item after these items in file order
  pub item_fault : List X → X → Option Why

-- How texts are written: the preamble that the lines of a text begin with, and the grammar of the lines after it.
pub record Format (X : Type 0) : Type 0 where
  pub preamble : List (List ℕ) → Preamble
  pub grammar : SettingValue → Grammar X

-- ---- a text in parts

abbrev pub preamble_of : {X : Type 0} → Format X → List ℕ → Preamble
preamble_of f text = f.preamble (whole_lines (parts_of text))

-- the number of lines of the preamble
abbrev pub preamble_lines : {X : Type 0} → Format X → List ℕ → ℕ
preamble_lines f text = length (preamble_of f text).faults

-- the parts after the preamble
abbrev pub body_of : {X : Type 0} → Format X → List ℕ → List (List ℕ)
body_of f text = drop (preamble_lines f text) (parts_of text)

-- the grammar of the lines after the preamble
abbrev pub grammar_of : {X : Type 0} → Format X → List ℕ → Grammar X
grammar_of f text = f.grammar (preamble_of f text).setting

-- ---- what lines say

abbrev pub said : {X : Type 0} → Grammar X → List ℕ → Result (Line X) Why
said g line = g.said_by (tokens_of line)

-- the lists with one more item in the last of them
abbrev pub push_last : {X : Type 0} → List (List X) → X → List (List X)
push_last [] x = []
push_last (row ∷ []) x = (row ++ x ∷ []) ∷ []
push_last (row ∷ next ∷ lists) x = row ∷ push_last (next ∷ lists) x

-- the lists after one more line
abbrev pub with_line : {X : Type 0} → List (List X) → Line X → List (List X)
with_line lists Proc = lists ++ [] ∷ []
with_line lists (Item x) = push_last lists x
with_line lists End = lists

-- the same, where a line with a fault says nothing
abbrev pub with_said : {X : Type 0} → List (List X) → Result (Line X) Why → List (List X)
with_said lists (Err why) = lists
with_said lists (Ok line) = with_line lists line

abbrev pub is_end : {X : Type 0} → Result (Line X) Why → Bool
is_end (Ok Proc) = false
is_end (Ok (Item x)) = false
is_end (Ok End) = true
is_end (Err why) = false

-- all items in file order
abbrev pub items_of : {X : Type 0} → List (List X) → List X
items_of lists = flat_map (λ row. row) lists

-- ---- faults

-- the fault of what a line says, after what the lines before it say
abbrev pub line_fault : {X : Type 0} → Grammar X → List (List X) → Line X → Option Why
line_fault g lists line = line_fault_after g.item_fault lists line

abbrev pub said_fault : {X : Type 0} → Grammar X → List (List X) → Result (Line X) Why → Option Why
said_fault g lists r = fault_of r (line_fault g lists)

-- what stands after the last line end, where no `end` line came
abbrev pub unended_text_fault : List ℕ → Why
unended_text_fault part = if is_empty part then MissingEnd else BadLine

-- ---- line after line

-- the fault of the line of this number, or else what is read from there on
abbrev pub or_fault : {A : Type 0} → ℕ → Option Why → Result A (ℕ × Why) → Result A (ℕ × Why)
or_fault n (Some why) read = Err (n, why)
or_fault n None read = read

-- the first of these faults, of the line of this number and of those after it, or else what is read
abbrev pub or_first_fault : {A : Type 0} → ℕ → List (Option Why) → Result A (ℕ × Why) → Result A (ℕ × Why)
or_first_fault n [] read = read
or_first_fault n (fault ∷ faults) read = or_fault n fault (or_first_fault (suc n) faults read)

-- what was read up to the line `end`, where nothing follows it
abbrev pub ended : {A : Type 0} → ℕ → A → List (List ℕ) → Result A (ℕ × Why)
ended n read [] = Err (n, AfterEnd)
ended n read (part ∷ parts) = if is_empty parts && is_empty part then Ok read else Err (n, AfterEnd)

-- the lists that these parts make of these lists, from the line of this number on, or the first line with a fault, and that fault
abbrev pub lists_read : {X : Type 0} → Grammar X → ℕ → List (List X) → List (List ℕ) → Result (List (List X)) (ℕ × Why)
lists_read g n lists [] = Err (n, MissingEnd)
lists_read g n lists (part ∷ []) = Err (n, unended_text_fault part)
lists_read g n lists (part ∷ next ∷ parts) =
    or_fault n (said_fault g lists (said g part))
    (if is_end (said g part) then ended (suc n) (with_said lists (said g part)) (next ∷ parts) else lists_read g (suc n) (with_said lists (said g part)) (next ∷ parts))

-- The lists that a text says, or its first line with a fault, and that fault. Line 0 is the text as a whole.
unfoldable pub text_read : {X : Type 0} → Format X → List ℕ → Result (List (List X)) (ℕ × Why)
text_read f text =
    if nat_lt text_byte_limit (length text) then Err (0, TooLong)
    else or_first_fault 1 (preamble_of f text).faults (lists_read (grammar_of f text) (suc (preamble_lines f text)) (grammar_of f text).start (body_of f text))

-- the refusal of a text
abbrev pub IsTextRefusal : {X : Type 0} → Format X → List ℕ → ℕ → Why → Type 0
IsTextRefusal f text line why = text_read f text ≡ Err (line, why)

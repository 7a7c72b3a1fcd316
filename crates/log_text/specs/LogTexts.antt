-- What the text of a log spells, and how it is refused.
use Rattle.std.specs.Prelude.{◌≡◌, ◌⊎◌, ◌≢◌, ℕ, suc, ◌==◌, Bool, true, false, not, nat_eq, max, List, [], ◌∷◌, ◌++◌, length, map, filter, Option, None, Some, Result, Ok, Err, if◌then◌else◌}
use Rattle.std.specs.BTreeMap.{insert_entry}
use Rattle.std.specs.List.{count_by, flat_map, fold, list_any, range_with_len, sum_by}
use Rattle.std.specs.Ordering.{nat_cmp}
use Rattle.line_text.specs.Lines.{parts_of}
use Rattle.tso_ops.specs.declared.settings.Order.{Order}
use Rattle.tso_ops.specs.declared.settings.Order.TheVariants.{Tso as OrderTso, Pso as OrderPso}
use Rattle.tso_text.specs.declared.faults.Why.{Why}
use Rattle.tso_text.specs.declared.faults.Why.TheVariants.{BadLine}
use Rattle.log_text.specs.declared.lines.LogLine.{LogLine}
use Rattle.log_text.specs.declared.lines.LogLine.TheVariants.{Note, Pso, First, Issued, Unknown, Memory, End}
use Rattle.log_text.specs.declared.logs.LogOperation.{LogOperation}
use Rattle.log_text.specs.declared.logs.LogOperation.TheVariants.{Ld, St, Sw, Mb, Sb}
use Rattle.log_text.specs.declared.logs.LoggedOperation.{LoggedOperation}
use Rattle.run_lines.specs.declared.arguments.Widths.{Widths}
use Rattle.log_text.specs.declared.lines.SaidLine.{SaidLine}
use Rattle.log_text.specs.LogLines.{line_said, widths_of_texts}
use Rattle.log_text.specs.Splits.{split_lines}
use Rattle.log_text.specs.LogValues.{NumberedLog}

-- ---- the log of some lines

-- the line says that the memory model is PSO
abbrev pub is_model : LogLine → Bool
is_model Note = false
is_model Pso = true
is_model (First a v) = false
is_model (Issued p x) = false
is_model (Unknown p a) = false
is_model Memory = false
is_model End = false

-- PSO where a line says so, else TSO
abbrev pub order_of : List LogLine → Order
order_of lines = if list_any is_model lines then OrderPso else OrderTso

-- the first value that the line says
abbrev pub entries_in : LogLine → List (ℕ × ℕ)
entries_in Note = []
entries_in Pso = []
entries_in (First a v) = (a, v) ∷ []
entries_in (Issued p x) = []
entries_in (Unknown p a) = []
entries_in Memory = []
entries_in End = []

-- one more first value, in ascending order of addresses: it stands for one of its address before
abbrev pub with_first : List (ℕ × ℕ) → ℕ × ℕ → List (ℕ × ℕ)
with_first first entry = insert_entry nat_cmp first entry.0 entry.1

-- the first values that the lines say
abbrev pub first_values : List LogLine → List (ℕ × ℕ)
first_values lines = fold with_first [] (flat_map entries_in lines)

-- the address to which something unknown was done, by this line
abbrev pub unknown_in : LogLine → List ℕ
unknown_in Note = []
unknown_in Pso = []
unknown_in (First a v) = []
unknown_in (Issued p x) = []
unknown_in (Unknown p a) = a ∷ []
unknown_in Memory = []
unknown_in End = []

-- how many processors there are up to the one of which the line says something to a log
abbrev pub processors_to : LogLine → ℕ
processors_to Note = 0
processors_to Pso = 0
processors_to (First a v) = 0
processors_to (Issued p x) = suc p
processors_to (Unknown p a) = suc p
processors_to Memory = 0
processors_to End = 0

-- how many there are up to the last of which one says something
abbrev pub processors_in : List LogLine → ℕ
processors_in [] = 0
processors_in (line ∷ lines) = max (processors_to line) (processors_in lines)

-- the operation that the line of this number says, where it is one of processor p
abbrev pub issued_in : ℕ → ℕ → LogLine → List LoggedOperation
issued_in p number Note = []
issued_in p number Pso = []
issued_in p number (First a v) = []
issued_in p number (Issued q x) = if p == q then record { line = number; operation = x } ∷ [] else []
issued_in p number (Unknown q a) = []
issued_in p number Memory = []
issued_in p number End = []

-- those that the lines from this number on say
abbrev pub issued_from : ℕ → List LogLine → ℕ → List LoggedOperation
issued_from number [] p = []
issued_from number (line ∷ lines) p = issued_in p number line ++ issued_from (suc number) lines p

-- the operation is one at an address of these
abbrev pub is_at_one_of : List ℕ → LogOperation → Bool
is_at_one_of addresses (Ld a r) = list_any (nat_eq a) addresses
is_at_one_of addresses (St a v) = list_any (nat_eq a) addresses
is_at_one_of addresses (Sw a r v) = list_any (nat_eq a) addresses
is_at_one_of addresses Mb = false
is_at_one_of addresses Sb = false

-- the same of one with its line
abbrev pub is_operation_at : List ℕ → LoggedOperation → Bool
is_operation_at addresses x = is_at_one_of addresses x.operation

-- the operations at other addresses
abbrev pub without_addresses : List ℕ → List LoggedOperation → List LoggedOperation
without_addresses addresses operations = filter (λ x. not (is_operation_at addresses x)) operations

-- What processor p did, by these lines. Where something unknown was done to a location, nothing is known of the operations there.
abbrev pub issued_by : List LogLine → ℕ → List LoggedOperation
issued_by lines p = without_addresses (flat_map unknown_in lines) (issued_from 1 lines p)

-- how many operations of all processors are so left out
abbrev pub left_out_by : List LogLine → ℕ
left_out_by lines = sum_by (λ p. count_by (is_operation_at (flat_map unknown_in lines)) (issued_from 1 lines p)) (range_with_len 0 (processors_in lines))

-- the log of these lines
abbrev pub log_of_lines : List LogLine → NumberedLog
log_of_lines lines = record {
  order = order_of lines;
  first = first_values lines;
  lists = map (issued_by lines) (range_with_len 0 (processors_in lines));
  left_out = left_out_by lines;
}

-- ---- the faults of lines

-- the line says something
abbrev pub is_telling : LogLine → Bool
is_telling Note = false
is_telling Pso = true
is_telling (First a v) = true
is_telling (Issued p x) = true
is_telling (Unknown p a) = true
is_telling Memory = true
is_telling End = true

-- the line is a step of a processor
abbrev pub is_step : LogLine → Bool
is_step Note = false
is_step Pso = false
is_step (First a v) = false
is_step (Issued p x) = true
is_step (Unknown p a) = true
is_step Memory = true
is_step End = false

-- the line says that nothing follows
abbrev pub is_end : LogLine → Bool
is_end Note = false
is_end Pso = false
is_end (First a v) = false
is_end (Issued p x) = false
is_end (Unknown p a) = false
is_end Memory = false
is_end End = true

-- the line may stand after these, none of which is `end`: the memory model stands before all that says something, and first values before all steps
abbrev pub may_follow : List LogLine → LogLine → Bool
may_follow before Note = true
may_follow before Pso = not (list_any is_telling before)
may_follow before (First a v) = not (list_any is_step before)
may_follow before (Issued p x) = true
may_follow before (Unknown p a) = true
may_follow before Memory = true
may_follow before End = true

-- the fault of a line after these, if it has one: none stands after a line `end`
abbrev pub fault_after : List LogLine → LogLine → Option Why
fault_after before line = if list_any is_end before then Some BadLine else if may_follow before line then None else Some BadLine

-- that of bytes after these lines which say this, or are refused
abbrev pub fault_of_said : List LogLine → Result SaidLine Why → Option Why
fault_of_said before (Err why) = if list_any is_end before then Some BadLine else Some why
fault_of_said before (Ok said) = fault_after before said.line

-- what lines say, whatever the widths of their places
abbrev pub lines_told : List SaidLine → List LogLine
lines_told lines = map (λ s. s.line) lines

-- that of the bytes of a line, in a text of such places
abbrev pub line_fault : Widths → List SaidLine → List ℕ → Option Why
line_fault places before text = fault_of_said (lines_told before) (line_said places text)

-- each of the lines says what stands in its place, in a text of such places, and none has a fault
pub record AreSaid (places : Widths) (texts : List (List ℕ)) (lines : List SaidLine) : Type 0 where
  pub said : map (line_said places) texts ≡ map Ok lines
  pub clean : (before : List SaidLine) (line : SaidLine) (after : List SaidLine) → lines ≡ before ++ line ∷ after → fault_after (lines_told before) line.line ≡ None

-- ---- texts

-- which places a text has
abbrev pub places_of_text : List ℕ → Widths
places_of_text text = widths_of_texts (parts_of text)

-- The text spells this log: it consists of lines, each with its line end, and they say the log, where the bytes of their places are cut at all boundaries.
pub record SpellsLog (text : List ℕ) (log : NumberedLog) : Type 0 where
  pub texts : List (List ℕ)
  pub lines : List SaidLine
  pub whole : parts_of text ≡ texts ++ [] ∷ []
  pub said : AreSaid (places_of_text text) texts lines
  pub is : log ≡ log_of_lines (split_lines (places_of_text text) lines)

-- The text has a line `end`: it consists of lines, each with its line end, and they say a log that has one.
pub record IsEndedLog (text : List ℕ) : Type 0 where
  pub texts : List (List ℕ)
  pub lines : List SaidLine
  pub whole : parts_of text ≡ texts ++ [] ∷ []
  pub said : AreSaid (places_of_text text) texts lines
  pub ended : list_any is_end (lines_told lines) ≡ true

-- where a text needs a line `end`, it has one
abbrev pub IsEndedAsNeeded : Bool → List ℕ → Type 0
IsEndedAsNeeded needs_end text = needs_end ≡ true → IsEndedLog text

-- A part of a text of such places is refused after these lines: it has a fault, or it is the last part and no line end follows it, or none of the lines
-- is an `end` that the text needs.
abbrev pub IsPartRefused : Bool → Widths → List SaidLine → List ℕ → List (List ℕ) → Why → Type 0
IsPartRefused needs_end places before part [] why = ((part ≢ []) ⊎ ((needs_end ≡ true) × (list_any is_end (lines_told before) ≡ false))) × (why ≡ BadLine)
IsPartRefused needs_end places before part (next ∷ after) why = line_fault places before part ≡ Some why

-- The refusal of a text: its first line with a fault, counted from 1, and that fault. Where an `end` is needed and missing, the line after all others has it.
pub record IsLogRefusal (needs_end : Bool) (text : List ℕ) (line : ℕ) (why : Why) : Type 0 where
  pub texts : List (List ℕ)
  pub lines : List SaidLine
  pub part : List ℕ
  pub after : List (List ℕ)
  pub whole : parts_of text ≡ texts ++ part ∷ after
  pub said : AreSaid (places_of_text text) texts lines
  pub is : line ≡ suc (length texts)
  pub fault : IsPartRefused needs_end (places_of_text text) lines part after why

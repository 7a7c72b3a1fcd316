-- What a reading of a log holds after some lines, and how the next one is accepted or refused.
use Rattle.std.specs.Prelude.{◌≡◌, ◌⊎◌, ◌||◌, ℕ, suc, max, List, [], ◌∷◌, ◌++◌, length, get_or, None, Some, Ok, if◌then◌else◌}
use Rattle.std.specs.List.{flat_map, fold, list_any}
use Rattle.tso_ops.specs.declared.settings.Order.TheVariants.{Pso as OrderPso}
use Rattle.tso_ops.specs.Values.{rows}
use Rattle.tso_text.specs.declared.faults.Why.{Why}
use Rattle.tso_text.specs.declared.faults.Why.TheVariants.{OutOfMemory}
use Rattle.log_text.specs.declared.lines.LogLine.{LogLine}
use Rattle.log_text.specs.declared.readings.Reading.{Reading}
use Rattle.log_text.specs.declared.cutting.Cutting.{Cutting}
use Rattle.log_text.specs.declared.lines.SaidLine.{SaidLine}
use Rattle.run_lines.specs.declared.arguments.Widths.{Widths}
use Rattle.log_text.specs.Internal.Cuts.{IsWithin}
use Rattle.std.specs.HashSet.{keys}
use Rattle.log_text.specs.LogLines.{line_said}
use Rattle.log_text.specs.Splits.{split_line}
use Rattle.log_text.specs.LogTexts.{order_of, is_model, entries_in, first_values, with_first, unknown_in, issued_in, issued_from, is_end, is_step, is_telling, processors_in, processors_to, fault_after, line_fault, lines_told}

-- what the reading holds of lines beside what they say of operations and values
pub record HoldsStages (reading : Reading) (lines : List LogLine) : Type 0 where
  pub begun : reading.is_begun ≡ list_any is_telling lines
  pub steps : reading.has_steps ≡ list_any is_step lines
  pub ended : reading.is_ended ≡ list_any is_end lines

-- the reading holds what these lines say
pub record HoldsLines (reading : Reading) (lines : List LogLine) : Type 0 where
  pub order : reading.order ≡ order_of lines
  pub first : reading.first.entries ≡ first_values lines
  pub count : length (rows reading.lists.items) ≡ processors_in lines
  pub lists : (p : ℕ) → get_or (rows reading.lists.items) p [] ≡ issued_from 1 lines p
  pub unknown : reading.unknown.items ≡ flat_map unknown_in lines
  pub stages : HoldsStages reading lines

-- the lines, cut at these boundaries
abbrev pub split_at : List ℕ → List SaidLine → List LogLine
split_at boundaries lines = flat_map (split_line boundaries) lines

-- The reading holds what these lines say, cut at these boundaries, and this is the next number.
pub record HoldsSaid (reading : Reading) (boundaries : List ℕ) (lines : List SaidLine) (number : ℕ) : Type 0 where
  pub holds : HoldsLines reading (split_at boundaries lines)
  pub count : number ≡ suc (length (split_at boundaries lines))

-- the new reading holds what the old one holds and what the line of this number says
pub record Adds (old : Reading) (number : ℕ) (line : LogLine) (new : Reading) : Type 0 where
  pub order : new.order ≡ (if is_model line then OrderPso else old.order)
  pub first : new.first.entries ≡ fold with_first old.first.entries (entries_in line)
  pub count : length (rows new.lists.items) ≡ max (processors_to line) (length (rows old.lists.items))
  pub lists : (p : ℕ) → get_or (rows new.lists.items) p [] ≡ get_or (rows old.lists.items) p [] ++ issued_in p number line
  pub unknown : new.unknown.items ≡ old.unknown.items ++ unknown_in line
  pub begun : new.is_begun ≡ (old.is_begun || is_telling line)
  pub steps : new.has_steps ≡ (old.has_steps || is_step line)
  pub ended : new.is_ended ≡ (old.is_ended || is_end line)

-- a line of a text of such places says this, has no fault, and the new reading holds it too
pub record IsTextNext (places : Widths) (boundaries : List ℕ) (before : List SaidLine) (text : List ℕ) (new : Reading) (next : ℕ) : Type 0 where
  pub line : SaidLine
  pub says : line_said places text ≡ Ok line
  pub clean : fault_after (lines_told before) line.line ≡ None
  pub within : IsWithin line
  pub holds : HoldsSaid new boundaries (before ++ line ∷ []) next

-- where this is the number of what the line says, and that the number of what follows
abbrev pub IsTextAccepted : Cutting → Reading → ℕ → List ℕ → Reading → ℕ → Type 0
IsTextAccepted cutting old number text new next = (before : List SaidLine) → HoldsSaid old (keys cutting.boundaries) before number →
    IsTextNext cutting.places (keys cutting.boundaries) before text new next

-- memory was refused, or the line has this fault after the lines that the old reading holds
abbrev pub IsTextRefused : Cutting → Reading → List ℕ → Why → Type 0
IsTextRefused cutting old text why = (boundaries : List ℕ) (before : List SaidLine) (number : ℕ) → HoldsSaid old boundaries before number →
    (why ≡ OutOfMemory) ⊎ (line_fault cutting.places before text ≡ Some why)

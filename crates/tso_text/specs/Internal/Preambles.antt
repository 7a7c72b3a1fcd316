-- What texts begin with: a header, and in traces and programs the memory model and the first values.
use Rattle.std.specs.Str.{bytes_eq}
use Rattle.std.specs.Prelude.{ℕ, ◌||◌, Bool, List, [], ◌∷◌, ◌++◌, length, map, drop, Option, Some, None, Result, Ok, Err, codes, if◌then◌else◌}
use Rattle.std.specs.List.{take_while}
use Rattle.line_text.specs.Lines.{tokens_of}
use Rattle.tso_ops.specs.declared.settings.Order.{Order}
use Rattle.tso_ops.specs.declared.settings.Order.TheVariants.{Tso, Pso}
use Rattle.tso_ops.specs.declared.settings.Version.{Version}
use Rattle.tso_ops.specs.declared.settings.Version.TheVariants.{One, Two}
use Rattle.tso_ops.specs.Settings.{version_one_tso}
use Rattle.tso_text.specs.declared.faults.Why.{Why}
use Rattle.tso_text.specs.declared.faults.Why.TheVariants.{BadHeader}
use Rattle.tso_text.specs.Lines.{begins_with, has_keyword, model_line_in}
use Rattle.tso_text.specs.Internal.LineReadings.{fault_of, model_said, entry_by, entry_fault_after}
use Rattle.tso_text.specs.Internal.Spelling.{Preamble}

-- ---- the header

-- the first line is no header
abbrev pub header_fault : (List ℕ → Bool) → List (List ℕ) → Option Why
header_fault is_header lines = if begins_with is_header lines then None else Some BadHeader

-- texts that begin with a header alone
unfoldable pub header_alone : List ℕ → List (List ℕ) → Preamble
header_alone header lines = record { setting = version_one_tso; faults = header_fault (λ line. bytes_eq line header) lines ∷ [] }

-- ---- the memory model

-- the tokens after the keyword
abbrev pub after_keyword : List ℕ → List (List ℕ)
after_keyword line = drop 1 (tokens_of line)

abbrev pub model_fault : List ℕ → Option Why
model_fault line = fault_of (model_said (after_keyword line)) (λ _. None)

-- the memory model of a text with these lines `model`: TSO has none
abbrev pub order_of_lines : List (List ℕ) → Order
order_of_lines [] = Tso
order_of_lines (line ∷ lines) = Pso

-- ---- first values

-- the lines `init` that these lines begin with, in version 2
abbrev pub entry_lines : Version → List (List ℕ) → List (List ℕ)
entry_lines One lines = []
entry_lines Two lines = take_while (has_keyword (codes "init")) lines

abbrev pub entry_said : List ℕ → Result (ℕ × ℕ) Why
entry_said line = entry_by (after_keyword line)

abbrev pub said_entry_fault : List (ℕ × ℕ) → Result (ℕ × ℕ) Why → Option Why
said_entry_fault before r = fault_of r (entry_fault_after before)

-- the entries with one more, where a line with a fault says nothing
abbrev pub with_said_entry : List (ℕ × ℕ) → Result (ℕ × ℕ) Why → List (ℕ × ℕ)
with_said_entry before (Ok entry) = before ++ entry ∷ []
with_said_entry before (Err why) = before

-- the entries after these lines, from these entries on
abbrev pub entries_after : List (ℕ × ℕ) → List (List ℕ) → List (ℕ × ℕ)
entries_after before [] = before
entries_after before (line ∷ lines) = entries_after (with_said_entry before (entry_said line)) lines

-- the faults of these lines, from these entries on
abbrev pub entry_faults : List (ℕ × ℕ) → List (List ℕ) → List (Option Why)
entry_faults before [] = []
entry_faults before (line ∷ lines) = said_entry_fault before (entry_said line) ∷ entry_faults (with_said_entry before (entry_said line)) lines

-- ---- traces and programs

-- the version of a text with this first line
abbrev pub version_of : List ℕ → List ℕ → Version
version_of two line = if bytes_eq line two then Two else One

-- the lines after the header, by their kinds
pub record SettingLines : Type 0 where
  pub version : Version
  pub model : List (List ℕ)
  pub entries : List (List ℕ)

-- those of a text with this first line and these lines after it
abbrev pub setting_lines : List ℕ → List ℕ → List (List ℕ) → SettingLines
setting_lines two line lines =
    record { version = version_of two line; model = model_line_in lines; entries = entry_lines (version_of two line) (drop (length (model_line_in lines)) lines) }

-- the preamble that they are, after the header
abbrev pub preamble_by : Option Why → SettingLines → Preamble
preamble_by header s =
    record {
      setting = record { version = s.version; order = order_of_lines s.model; first = entries_after [] s.entries };
      faults = header ∷ map model_fault s.model ++ entry_faults [] s.entries;
    }

-- texts that begin with one of two headers, perhaps a line `model`, and in version 2 the lines `init` that follow
unfoldable pub setting_preamble : List ℕ → List ℕ → List (List ℕ) → Preamble
setting_preamble one two [] = record { setting = version_one_tso; faults = header_fault (λ line. bytes_eq line one || bytes_eq line two) [] ∷ [] }
setting_preamble one two (line ∷ lines) = preamble_by (header_fault (λ line. bytes_eq line one || bytes_eq line two) (line ∷ lines)) (setting_lines two line lines)

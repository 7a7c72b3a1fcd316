-- How far a reader has come in the preamble of a text, and in the lines after it.
use Rattle.std.specs.Str.{bytes_eq}
use Rattle.std.specs.Prelude.{◌≡◌, ℕ, suc, ◌+◌, ◌<◌, ◌≤◌, ◌||◌, true, false, List, [], ◌∷◌, ◌++◌, length, map, drop, Option, Some, None, Ok, Err, codes}
use Rattle.std.specs.List.{take_while}
use Rattle.line_text.specs.Lines.{parts_of}
use Rattle.tso_ops.specs.declared.settings.Order.{Order}
use Rattle.tso_ops.specs.declared.settings.Version.{Version}
use Rattle.tso_ops.specs.declared.settings.Version.TheVariants.{One}
use Rattle.tso_ops.specs.Settings.{SettingValue, with_entry}
use Rattle.tso_ops.specs.Limits.{KeepsEntries}
use Rattle.tso_text.specs.declared.faults.Why.{Why}
use Rattle.tso_text.specs.Lines.{begins_with, model_line_in, has_keyword, whole_lines}
use Rattle.tso_text.specs.Internal.LineReadings.{entry_by, entry_fault_after}
use Rattle.tso_text.specs.Internal.Preambles.{version_of, model_fault, order_of_lines, entries_after, entry_faults, entry_said, said_entry_fault}
use Rattle.tso_text.specs.Internal.Spelling.{Preamble, Grammar, lists_read}
use Rattle.tso_text.specs.Internal.Accepted.{IsRefusedFor}

-- none of these is a fault
abbrev pub AreFaultless : List (Option Why) → Type 0
AreFaultless [] = Unit {0}
AreFaultless (fault ∷ faults) = (fault ≡ None) × AreFaultless faults

-- what a preamble says that has no fault
pub record IsSetting (setting : SettingValue) : Type 0 where
  pub entries : KeepsEntries setting.first
  pub version_one : setting.version ≡ One → setting.first ≡ []

-- The preamble has no fault, this setting and so many lines; `rest` is what stands after them in the text.
pub record HasBegun (p : Preamble) (text : List ℕ) (setting : SettingValue) (lines : ℕ) (rest : List ℕ) : Type 0 where
  pub says : p.setting ≡ setting
  pub count : length p.faults ≡ lines
  pub clean : AreFaultless p.faults
  pub body : drop (length p.faults) (parts_of text) ≡ parts_of rest
  pub room : lines + length rest ≤ length text
  pub setting_is : IsSetting setting

-- The refusal of a preamble: the first of its lines with a fault, and that fault.
pub record IsPreambleRefusal (p : Preamble) (line : ℕ) (why : Why) : Type 0 where
  pub before : List (Option Why)
  pub after : List (Option Why)
  pub parts : p.faults ≡ before ++ Some why ∷ after
  pub clean : AreFaultless before
  pub at : line ≡ length before + 1

-- The text begins with a header of this version; `rest` is what stands after it.
pub record HasHeader (one two text : List ℕ) (version : Version) (rest : List ℕ) : Type 0 where
  pub line : List ℕ
  pub parts : parts_of text ≡ line ∷ parts_of rest
  pub is : (bytes_eq line one || bytes_eq line two) ≡ true
  pub says : version_of two line ≡ version
  pub shorter : length rest < length text

-- The text begins with no header.
abbrev pub HasNoHeader : List ℕ → List ℕ → List ℕ → Type 0
HasNoHeader one two text = begins_with (λ line. bytes_eq line one || bytes_eq line two) (whole_lines (parts_of text)) ≡ false

-- The text begins with so many lines `model`, without a fault, of this memory model; `rest` is what stands after them.
pub record HasModel (text : List ℕ) (order : Order) (lines : ℕ) (rest : List ℕ) : Type 0 where
  pub model : List (List ℕ)
  pub is : model_line_in (whole_lines (parts_of text)) ≡ model
  pub says : order_of_lines model ≡ order
  pub count : length model ≡ lines
  pub clean : AreFaultless (map model_fault model)
  pub parts : parts_of text ≡ model ++ parts_of rest
  pub room : lines + length rest ≤ length text

-- The text begins with a line `model` that has this fault.
pub record HasBadModel (text : List ℕ) (why : Why) : Type 0 where
  pub line : List ℕ
  pub is : model_line_in (whole_lines (parts_of text)) ≡ line ∷ []
  pub refused : IsRefusedFor (model_fault line) why

-- The lines `init` that the text begins with are these, without a fault, and those that the rest begins with.
pub record HasEntries (text : List ℕ) (first : List (ℕ × ℕ)) (lines : ℕ) (rest : List ℕ) : Type 0 where
  pub done : List (List ℕ)
  pub is : take_while (has_keyword (codes "init")) (whole_lines (parts_of text)) ≡ done ++ take_while (has_keyword (codes "init")) (whole_lines (parts_of rest))
  pub says : entries_after [] done ≡ first
  pub count : length done ≡ lines
  pub clean : AreFaultless (entry_faults [] done)
  pub parts : parts_of text ≡ done ++ parts_of rest
  pub room : lines + length rest ≤ length text

-- All lines `init` that the text begins with are read.
pub record HasAllEntries (text : List ℕ) (first : List (ℕ × ℕ)) (lines : ℕ) (rest : List ℕ) : Type 0 where
  pub read : HasEntries text first lines rest
  pub none : take_while (has_keyword (codes "init")) (whole_lines (parts_of rest)) ≡ []

-- These tokens after `init` say an entry that has no fault after those of the old setting; the new one has it as well.
pub record IsEntryRead (old : SettingValue) (tokens : List (List ℕ)) (new : SettingValue) : Type 0 where
  pub entry : ℕ × ℕ
  pub says : entry_by tokens ≡ Ok entry
  pub clean : entry_fault_after old.first entry ≡ None
  pub is : new ≡ with_entry old entry

-- They are refused for this, after these entries.
abbrev pub IsEntryRefused : List (ℕ × ℕ) → List (List ℕ) → Why → Type 0
IsEntryRefused before tokens why = IsRefusedFor (said_entry_fault before (entry_by tokens)) why

-- After so many lines `init` without a fault there is one that is refused for this.
pub record HasBadEntry (text : List ℕ) (lines : ℕ) (why : Why) : Type 0 where
  pub done : List (List ℕ)
  pub line : List ℕ
  pub after : List (List ℕ)
  pub is : take_while (has_keyword (codes "init")) (whole_lines (parts_of text)) ≡ done ++ line ∷ after
  pub count : length done ≡ lines
  pub clean : AreFaultless (entry_faults [] done)
  pub refused : IsRefusedFor (said_entry_fault (entries_after [] done) (entry_said line)) why
  pub room : lines ≤ length text

-- ---- after the preamble

-- the parts spell these lists, whatever the number of their first line
abbrev pub SpellsBody : {X : Type 0} → Grammar X → List (List ℕ) → List (List X) → Type 0
SpellsBody g parts lists = (n : ℕ) → lists_read g n g.start parts ≡ Ok lists

-- the parts are refused at this place, counted from 0
abbrev pub IsBodyRefusal : {X : Type 0} → Grammar X → List (List ℕ) → ℕ → Why → Type 0
IsBodyRefusal g parts i why = (n line : ℕ) → line ≡ i + n → lists_read g n g.start parts ≡ Err (line, why)

-- the parts after so many lines are refused at this line
abbrev pub IsBodyRefusedAfter : {X : Type 0} → Grammar X → List (List ℕ) → ℕ → ℕ → Why → Type 0
IsBodyRefusedAfter g parts lines line why = lists_read g (suc lines) g.start parts ≡ Err (line, why)

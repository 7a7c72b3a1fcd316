-- The lines of a text that refusals may name.
use Rattle.std.specs.Prelude.{◌≡◌, ℕ, ◌-◌, ◌==◌, Bool, List, [], Some, get_or, slice_get}
use Rattle.std.specs.List.{AllByRecursion, find, list_any}
use Rattle.std.specs.Option.{option_map_or}
use Rattle.run_following.specs.declared.kept_lines.KeptLine.{KeptLine}
use Rattle.run_following.specs.declared.kept_lines.KeptLines.{KeptLines}

-- the line of this number among these, from 1; nothing, where there is none
abbrev pub text_at : List (List ℕ) → ℕ → List ℕ
text_at texts n = get_or texts (n - 1) []

abbrev pub line_number : KeptLine → ℕ
line_number line = line.number

-- the line of this number is kept
abbrev pub has_kept : KeptLines → ℕ → Bool
has_kept kept n = list_any (λ line. line_number line == n) kept.lines.items

-- what is kept of the line of this number; nothing, where it isn't kept
abbrev pub kept_text : KeptLines → ℕ → List ℕ
kept_text kept n = option_map_or (λ line. line.text.items) (find (λ line. line_number line == n) kept.lines.items) []

-- what is kept of a line is what the line of its number says in this text
abbrev pub IsKeptOf : List (List ℕ) → KeptLine → Type 0
IsKeptOf texts line = slice_get texts (line.number - 1) ≡ Some line.text.items

-- the lines that are kept are lines of this text
abbrev pub AreKept : KeptLines → List (List ℕ) → Type 0
AreKept kept texts = AllByRecursion (IsKeptOf texts) kept.lines.items

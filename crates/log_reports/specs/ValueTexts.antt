-- What is said of a violation by values: lines of the log, and how many stores were eliminated; with explanations, why.
use Rattle.std.specs.Prelude.{ℕ, List, [], ◌∷◌, ◌++◌, length, cond, codes}
use Rattle.std.specs.List.{flat_map}
use Rattle.std.specs.Fmt.{decimal}
use Rattle.line_text.specs.Lines.{is_empty}
use Rattle.trace_explanation.specs.JoinedTexts.{joined}
use Rattle.log_text.specs.declared.tags.LineTags.{LineTags}
use Rattle.log_text.specs.Origins.{line_of_number}
use Rattle.log_reports.specs.Lines.{line_shown, log_line_text, log_lines_text}
use Rattle.log_reports.specs.declared.value_violations.ShownEvidence.{ShownEvidence}
use Rattle.log_reports.specs.declared.value_violations.ShownSources.{ShownSources}
use Rattle.log_reports.specs.declared.value_violations.ShownSource.{ShownSource}
use Rattle.log_reports.specs.declared.value_violations.ShownSource.TheVariants.{Nothing, First, Line}

-- of how many stores of the value a load can't have read how many, and why
unfoldable pub eliminated_text : ShownSources → List ℕ
eliminated_text s = joined (
    codes "of " ∷ decimal s.stores ∷ codes " stores of " ∷ decimal s.value ∷ codes ": " ∷ decimal s.overwritten ∷ codes " overwritten, "
    ∷ decimal s.later ∷ codes " later, " ∷ decimal s.taken ∷ codes " taken\n" ∷ [])

-- what it read, if it can have read something
abbrev pub source_found_text : LineTags → ShownSource → List ℕ
source_found_text tags Nothing = []
source_found_text tags First = codes "read init\n"
source_found_text tags (Line number) = codes "read line " ++ decimal (line_of_number tags.origins number) ++ codes "\n"

-- a load, why it can't have read other stores than the one it read, and the nearest of these
abbrev pub sources_text : LineTags → ShownSources → List ℕ
sources_text tags s =
    log_line_text tags s.load ++ eliminated_text s ++ source_found_text tags s.source ++ log_lines_text tags s.before.items ++ log_lines_text tags s.after.items

-- a line that says what kind of violation it is, the lines of a cycle, if there is one, and the loads that it needs
abbrev pub evidence_lines_text : LineTags → ShownEvidence → List ℕ
evidence_lines_text tags shown = codes "by values\n" ++ log_lines_text tags shown.cycle.items ++ flat_map (sources_text tags) shown.loads.items

-- ---- explanations

-- the sentence on what a load read
abbrev pub source_words : LineTags → ShownSource → List ℕ
source_words tags Nothing = codes "So it can have read none of them.\n"
source_words tags First = codes "So it read the first value.\n"
source_words tags (Line number) = codes "So it read line " ++ decimal (line_of_number tags.origins number) ++ codes ".\n"

-- what a load read
unfoldable pub value_read_words : LineTags → ShownSources → List ℕ
value_read_words tags s = joined (codes "Line " ∷ decimal (line_shown tags s.load) ∷ codes " read " ∷ decimal s.value ∷ codes ". " ∷ [])

-- of how many stores of the value it can't have read how many, and why
unfoldable pub elimination_words : ShownSources → List ℕ
elimination_words s = joined (
    codes "Stores of this value to its address: " ∷ decimal s.stores ∷ codes ". Before another store that the line sees: " ∷ decimal s.overwritten
    ∷ codes "; after it: " ∷ decimal s.later ∷ codes "; read by another swap: " ∷ decimal s.taken ∷ codes ". " ∷ [])

abbrev pub sources_sentence : LineTags → ShownSources → List ℕ
sources_sentence tags s = value_read_words tags s ++ elimination_words s ++ source_words tags s.source

-- what the cycle is, if there is one
abbrev pub cycle_sentence : ShownEvidence → List ℕ
cycle_sentence shown =
    cond (is_empty shown.cycle.items) []
    (codes "The first " ++ decimal (length shown.cycle.items) ++ codes " lines are a cycle: each comes before the next, and the last before the first.\n")

-- why there is no order, and an empty line
abbrev pub evidence_sentences : LineTags → ShownEvidence → List ℕ
evidence_sentences tags shown = flat_map (sources_sentence tags) shown.loads.items ++ cycle_sentence shown ++ codes "\n"

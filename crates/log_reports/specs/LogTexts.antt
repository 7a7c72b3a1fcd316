-- What is said of a log in each form: by the lines of its violations, with explanations after them, or by the texts of their traces or of their evidence.
use Rattle.std.specs.Prelude.{ℕ, ◌==◌, Bool, true, false, List, [], ◌∷◌, ◌++◌, length, ◌+◌, cond, codes}
use Rattle.std.specs.List.{flat_map}
use Rattle.std.specs.Option.{option_map_or}
use Rattle.std.specs.Fmt.{decimal}
use Rattle.line_text.specs.Lines.{is_empty}
use Rattle.tso_ops.specs.declared.settings.Order.{Order}
use Rattle.tso_text.specs.Printed.{trace_text}
use Rattle.log_text.specs.LogValues.{NumberedLog}
use Rattle.log_text.specs.declared.tags.LineTags.{LineTags}
use Rattle.log_text.specs.Origins.{line_of_number}
use Rattle.log_selections.specs.declared.selecting.Selected.{Selected}
use Rattle.log_selections.specs.declared.unwritten.LoggedStore.{LoggedStore}
use Rattle.log_selections.specs.declared.unwritten.UnwrittenLoad.{UnwrittenLoad}
use Rattle.log_selections.specs.Unwritten.{lone_load}
use Rattle.log_thinning.specs.IdleSwaps.{with_idle_swaps_read}
use Rattle.value_texts.specs.Names.{event_names}
use Rattle.value_texts.specs.Printed.{evidence_value, value_evidence_text}
use Rattle.value_texts.specs.declared.names.EventName.{EventName}
use Rattle.log_reports.specs.LogCounts.{is_nothing_judged, is_too_unknown}
use Rattle.log_reports.specs.Lines.{log_line_text, log_lines_text}
use Rattle.log_reports.specs.Namings.{naming_of_shown}
use Rattle.log_reports.specs.ValueTexts.{evidence_lines_text, evidence_sentences}
use Rattle.trace_explanation.specs.JoinedTexts.{joined}
use Rattle.trace_explanation.specs.Explanations.{explanation_by}
use Rattle.log_reports.specs.declared.counts.LogCounts.{LogCounts}
use Rattle.log_reports.specs.Findings.{has_unjudged}
use Rattle.log_reports.specs.declared.findings.LogFindings.{LogFindings}
use Rattle.log_reports.specs.declared.forms.LogFound.{LogFound}
use Rattle.log_reports.specs.LogReports.{RendersLog}
use Rattle.log_reports.specs.declared.findings.LogViolation.{LogViolation}
use Rattle.log_reports.specs.declared.findings.LogViolation.TheVariants.{Selection, Unwritten, ByValues}
use Rattle.trace_reports.specs.declared.findings.Finding.{Finding}

-- ---- violations

-- the value of a store and its line, after a word
abbrev pub store_text : LineTags → List ℕ → LoggedStore → List ℕ
store_text tags word s = word ++ decimal s.value ++ codes " line " ++ decimal (line_of_number tags.origins s.line)

-- what was stored to the address of an unwritten load
abbrev pub stored_text : LineTags → UnwrittenLoad → List ℕ
stored_text tags load =
    codes "stored " ++ decimal load.stores ++ option_map_or (store_text tags (codes " first ")) load.first [] ++ option_map_or (store_text tags (codes " last ")) load.last [] ++ codes "\n"

-- why lines have no order, of a log with so many processors
abbrev pub selection_explained : LineTags → ℕ → Selected → Finding → List ℕ
selection_explained tags processors selected finding = explanation_by (naming_of_shown tags processors selected.shown.items) selected.trace finding.certificate ++ codes "\n"

-- these words where something is so
abbrev pub words_if : Bool → List ℕ → List ℕ
words_if is words = cond is words []

-- the lines of a violation, with these tags, and their explanation where one is asked for
abbrev pub violation_text : Bool → LineTags → ℕ → LogViolation → List ℕ
violation_text explains tags processors (Selection selected finding) =
    log_lines_text tags selected.shown.items ++ words_if explains (selection_explained tags processors selected finding)
violation_text explains tags processors (Unwritten load) = log_line_text tags load.shown ++ stored_text tags load
violation_text explains tags processors (ByValues shown) = evidence_lines_text tags shown ++ words_if explains (evidence_sentences tags shown)

-- the texts of elements, each after a line with a word and its number, from this number on
abbrev pub numbered_from : {X : Type 0} → (X → List ℕ) → List ℕ → ℕ → List X → List ℕ
numbered_from text word number [] = []
numbered_from text word number (x ∷ xs) = (word ++ decimal number ++ codes "\n" ++ text x) ++ numbered_from text word (number + 1) xs

-- ---- the report

-- what the log has
unfoldable pub sizes_text : LogCounts → List ℕ
sizes_text counts = joined (
    codes "TSO LOG 1\nprocessors " ∷ decimal counts.processors ∷ codes " operations " ∷ decimal counts.operations ∷ codes " loads " ∷ decimal counts.loads
    ∷ codes " unknown " ∷ decimal counts.unknown ∷ codes " left " ∷ decimal counts.left_out ∷ codes "\n" ∷ [])

-- how many loads were passed over, where some were
abbrev pub repeated_text : ℕ → List ℕ
repeated_text repeated = cond (repeated == 0) [] (codes "repeated " ++ decimal repeated ++ codes "\n")

-- how many lines were split into several pieces, where some were
abbrev pub split_text : ℕ → List ℕ
split_text split = cond (split == 0) [] (codes "split " ++ decimal split ++ codes "\n")

abbrev pub counts_text : LineTags → LogCounts → List ℕ
counts_text tags counts = sizes_text counts ++ split_text tags.origins.cut ++ repeated_text counts.repeated

-- that the rest of the log wasn't judged, or what is no trace
abbrev pub unsearched_text : LogFindings → List ℕ
unsearched_text findings = words_if findings.is_early (codes "SEARCH ENDED EARLY\n") ++ words_if (has_unjudged findings) (codes "NOT ALL JUDGED\n")

-- that no load was judged, or that of a hundred more are unknown than so many
abbrev pub unknown_text : ℕ → LogCounts → List ℕ
unknown_text percent counts = words_if (is_nothing_judged counts) (codes "NOTHING JUDGED\n") ++ words_if (is_too_unknown percent counts) (codes "TOO MANY UNKNOWN\n")

-- what wasn't judged
abbrev pub gaps_text : LogFound → List ℕ
gaps_text found = unsearched_text found.findings ++ unknown_text found.options.max_unknown found.counts

-- a violation where one is listed
abbrev pub found_text : LogFindings → List ℕ
found_text findings = cond (is_empty findings.violations.items) (codes "NO VIOLATION FOUND\n") (codes "VIOLATION\n")

-- that, and what wasn't judged
abbrev pub verdict_text : LogFound → List ℕ
verdict_text found = found_text found.findings ++ gaps_text found

-- a number of violations, and whether there are more
abbrev pub count_text : ℕ → Bool → List ℕ
count_text count has_more = codes "violations " ++ decimal count ++ words_if has_more (codes " of more") ++ codes "\n"

-- how many violations are listed, where some are
abbrev pub total_text : LogFindings → List ℕ
total_text findings = cond (is_empty findings.violations.items) [] (count_text (length findings.violations.items) findings.has_more)

-- the report, with explanations or without
abbrev pub report_text : Bool → LogFound → List ℕ
report_text explains found =
    counts_text found.tags found.counts ++ verdict_text found
    ++ numbered_from (violation_text explains found.tags found.counts.processors) (codes "violation ") 1 found.findings.violations.items
    ++ total_text found.findings
    ++ numbered_from (λ shown. log_lines_text found.tags shown.items) (codes "unjudged ") 1 found.findings.unjudged.items

-- the text of a violation's trace: of a load of what nothing wrote it is such a load alone; a violation by values has none
abbrev pub violation_trace_text : Order → LogViolation → List ℕ
violation_trace_text order (Selection selected finding) = trace_text selected.trace
violation_trace_text order (Unwritten load) = trace_text (lone_load order)
violation_trace_text order (ByValues shown) = []

abbrev pub violation_traces_text : Order → LogFindings → List ℕ
violation_traces_text order findings = flat_map (violation_trace_text order) findings.violations.items

-- the text of a violation's evidence by values, of a log whose events have these names; other violations have none
abbrev pub violation_evidence_text : List EventName → LogViolation → List ℕ
violation_evidence_text names (Selection selected finding) = []
violation_evidence_text names (Unwritten load) = []
violation_evidence_text names (ByValues shown) = value_evidence_text names (evidence_value shown.evidence)

-- the same of each violation of the log, whose idle swaps are read as loads
abbrev pub violation_evidence_texts : NumberedLog → List LogViolation → List ℕ
violation_evidence_texts log violations = flat_map (violation_evidence_text (event_names (with_idle_swaps_read log))) violations

-- ---- the forms

abbrev pub log_lines : RendersLog
log_lines log found = report_text false found

abbrev pub log_explained : RendersLog
log_explained log found = report_text true found

abbrev pub log_traces : RendersLog
log_traces log found = violation_traces_text log.order found.findings

abbrev pub log_evidence_text : RendersLog
log_evidence_text log found = violation_evidence_texts log found.findings.violations.items

-- The lines of a batch, in words, in JSON and in JUnit's XML. The lines of a text have its label.
use Rattle.std.specs.Prelude.{ℕ, Bool, true, false, List, [], ◌∷◌, ◌++◌, Option, Some, None, codes, length, nat_lt, unwrap_or, if◌then◌else◌}
use Rattle.std.specs.Fmt.{decimal}
use Rattle.std.specs.List.{count_by}
use Rattle.tso_text.specs.declared.faults.TextFault.{TextFault}
use Rattle.tso_text.specs.RefusalNames.{refusal_name}
use Rattle.request_options.specs.declared.batches.BatchFormat.{BatchFormat}
use Rattle.request_options.specs.declared.batches.BatchFormat.TheVariants.{Words, Json, Junit}
use Rattle.request_options.specs.declared.batches.BatchMethod.{BatchMethod}
use Rattle.request_options.specs.declared.batches.BatchMethod.TheVariants.{Judge, Decide}
use Rattle.trace_batches.specs.declared.judgments.Judgment.{Judgment}
use Rattle.trace_batches.specs.declared.judgments.Judgment.TheVariants.{NoViolation, Violation, Consistent, Undecided, Refused}
use Rattle.trace_batches.specs.declared.tallies.Tally.{Tally}
use Rattle.trace_batches.specs.BatchNames.{escaped_text}
use Rattle.trace_batches.specs.Judgments.{says_consistent, says_refused, says_undecided, says_violation}
use Rattle.trace_reports.specs.RefusalLines.{refusal_text}
use Rattle.trace_reports.specs.Verdicts.{verdict_line}

-- ---- in words

-- the end of a line: what the trace text's report says, without certificate, or its decision, without evidence
abbrev pub line_end_of : Judgment → List ℕ
line_end_of NoViolation = verdict_line false
line_end_of (Violation body) = verdict_line true
line_end_of Consistent = codes "CONSISTENT\n"
line_end_of (Undecided steps) = codes "UNDECIDED " ++ decimal steps ++ 10 ∷ []
line_end_of (Refused fault) = refusal_text fault.line fault.why

-- the line of the trace of this number
abbrev pub word_line : List ℕ → ℕ → Judgment → List ℕ
word_line label number judgment = label ++ codes "trace " ++ decimal number ++ codes " " ++ line_end_of judgment

-- ---- in JSON, an object on each line

abbrev pub json_verdict : List ℕ → ℕ → List ℕ → List ℕ
json_verdict label number verdict = codes "{" ++ label ++ codes "\"trace\":" ++ decimal number ++ codes ",\"verdict\":\"" ++ verdict ++ codes "\"}\n"

-- a refusal has its name and its line
unfoldable pub json_refusal : List ℕ → ℕ → TextFault → List ℕ
json_refusal label number fault =
    codes "{"
    ++ (label ++ (codes "\"trace\":" ++ (decimal number ++ (codes ",\"verdict\":\"refused\",\"name\":\"" ++ (refusal_name fault.why ++ (codes "\",\"line\":" ++ (decimal fault.line ++ codes "}\n")))))))

-- after how many steps it is undecided
unfoldable pub json_undecided : List ℕ → ℕ → ℕ → List ℕ
json_undecided label number steps =
    codes "{" ++ (label ++ (codes "\"trace\":" ++ (decimal number ++ (codes ",\"verdict\":\"undecided\",\"steps\":" ++ (decimal steps ++ codes "}\n")))))

-- the line of the trace of this number
abbrev pub json_line : List ℕ → ℕ → Judgment → List ℕ
json_line label number NoViolation = json_verdict label number (codes "no_violation_found")
json_line label number (Violation body) = json_verdict label number (codes "violation")
json_line label number Consistent = json_verdict label number (codes "consistent")
json_line label number (Undecided steps) = json_undecided label number steps
json_line label number (Refused fault) = json_refusal label number fault

-- ---- in JUnit's XML, one document with a suite for each trace, since the numbers of a suite come before its tests

-- what stands before the suites
abbrev pub junit_head : List ℕ
junit_head = codes "<?xml version=\"1.0\" encoding=\"UTF-8\"?>\n<testsuites>\n"

-- the numbers of a suite of one test: the test passes, fails, ends with an error, or is skipped
abbrev pub one_passed : List ℕ
one_passed = codes "tests=\"1\" failures=\"0\" errors=\"0\" skipped=\"0\""

abbrev pub one_failed : List ℕ
one_failed = codes "tests=\"1\" failures=\"1\" errors=\"0\" skipped=\"0\""

abbrev pub one_error : List ℕ
one_error = codes "tests=\"1\" failures=\"0\" errors=\"1\" skipped=\"0\""

abbrev pub one_skipped : List ℕ
one_skipped = codes "tests=\"1\" failures=\"0\" errors=\"0\" skipped=\"1\""

-- the start of the suite with these numbers whose one test has this name, of a text that has this label
unfoldable pub suite_start : List ℕ → List ℕ → List ℕ → List ℕ
suite_start label name numbers = codes "<testsuite name=\"" ++ (label ++ (codes " " ++ (name ++ (codes "\" " ++ (numbers ++ codes ">")))))

-- the test case, which has this end, and the end of its suite
unfoldable pub suite_case : List ℕ → List ℕ → List ℕ → List ℕ
suite_case label name end = codes "<testcase classname=\"" ++ (label ++ (codes "\" name=\"" ++ (name ++ (codes "\"" ++ (end ++ codes "</testsuite>\n")))))

unfoldable pub junit_suite : List ℕ → List ℕ → List ℕ → List ℕ → List ℕ
junit_suite label name numbers end = suite_start label name numbers ++ suite_case label name end

-- the suite of the trace of this number
abbrev pub junit_trace : List ℕ → ℕ → List ℕ → List ℕ → List ℕ
junit_trace label number numbers end = junit_suite label (codes "trace " ++ decimal number) numbers end

-- the end of a refusal: an error, with its name and its line
unfoldable pub junit_error : TextFault → List ℕ
junit_error fault = codes "><error message=\"REFUSED " ++ (refusal_name fault.why ++ (codes " line " ++ (decimal fault.line ++ codes "\"/></testcase>")))

-- the end of an undecided trace: it is skipped, after so many steps
unfoldable pub junit_skipped : ℕ → List ℕ
junit_skipped steps = codes "><skipped message=\"UNDECIDED " ++ (decimal steps ++ codes "\"/></testcase>")

-- the end of a violation: a failure, with what explains it where that is asked for
abbrev pub junit_failure : Option (List ℕ) → List ℕ
junit_failure None = codes "><failure message=\"VIOLATION\"/></testcase>"
junit_failure (Some text) = codes "><failure message=\"VIOLATION\">" ++ (escaped_text Junit text ++ codes "</failure></testcase>")

-- the line of the trace of this number
abbrev pub junit_line : List ℕ → ℕ → Judgment → List ℕ
junit_line label number NoViolation = junit_trace label number one_passed (codes "/>")
junit_line label number (Violation body) = junit_trace label number one_failed (junit_failure body)
junit_line label number Consistent = junit_trace label number one_passed (codes "/>")
junit_line label number (Undecided steps) = junit_trace label number one_skipped (junit_skipped steps)
junit_line label number (Refused fault) = junit_trace label number one_error (junit_error fault)

-- ---- in each format

-- what stands before all lines
abbrev pub head_of : BatchFormat → List ℕ
head_of Words = []
head_of Json = []
head_of Junit = junit_head

abbrev pub trace_line : BatchFormat → List ℕ → ℕ → Judgment → List ℕ
trace_line Words label number judgment = word_line label number judgment
trace_line Json label number judgment = json_line label number judgment
trace_line Junit label number judgment = junit_line label number judgment

-- ---- the last line: how many traces, and of how many which is said

-- in words
unfoldable pub judged_words : Tally → List ℕ
judged_words tally = codes "traces " ++ (decimal tally.traces ++ (codes " violations " ++ (decimal tally.violations ++ (codes " refused " ++ decimal tally.refused))))

unfoldable pub decided_words : Tally → List ℕ
decided_words tally =
    codes "traces "
    ++ (decimal tally.traces ++ (codes " consistent " ++ (decimal tally.consistent ++ (codes " violations " ++ (decimal tally.violations ++ (codes " undecided " ++ (decimal tally.undecided ++ (codes " refused " ++ decimal tally.refused))))))))

abbrev pub total_words : BatchMethod → Tally → List ℕ
total_words Judge tally = judged_words tally
total_words (Decide effort) tally = decided_words tally

-- in JSON
unfoldable pub judged_json : Tally → List ℕ
judged_json tally = codes "{\"traces\":" ++ (decimal tally.traces ++ (codes ",\"violations\":" ++ (decimal tally.violations ++ (codes ",\"refused\":" ++ (decimal tally.refused ++ codes "}\n")))))

unfoldable pub decided_json : Tally → List ℕ
decided_json tally =
    codes "{\"traces\":"
    ++ (decimal tally.traces ++ (codes ",\"consistent\":" ++ (decimal tally.consistent ++ (codes ",\"violations\":" ++ (decimal tally.violations ++ (codes ",\"undecided\":" ++ (decimal tally.undecided ++ (codes ",\"refused\":" ++ (decimal tally.refused ++ codes "}\n")))))))))

abbrev pub total_json : BatchMethod → Tally → List ℕ
total_json Judge tally = judged_json tally
total_json (Decide effort) tally = decided_json tally

-- in XML, a suite without a test, which ends the document
abbrev pub total_suite : List ℕ → List ℕ
total_suite words =
    codes "<testsuite name=\"tsobench batch\" tests=\"0\" failures=\"0\" errors=\"0\" skipped=\"0\"><system-out>" ++ words ++ codes "</system-out></testsuite>\n</testsuites>\n"

-- in each format
abbrev pub batch_total_text : BatchFormat → BatchMethod → Tally → List ℕ
batch_total_text Words method tally = total_words method tally ++ codes "\n"
batch_total_text Json method tally = total_json method tally
batch_total_text Junit method tally = total_suite (total_words method tally)

-- the numbers of these judgments
abbrev pub tally_of : List Judgment → Tally
tally_of judgments = record {
  traces = length judgments;
  consistent = count_by says_consistent judgments;
  violations = count_by says_violation judgments;
  undecided = count_by says_undecided judgments;
  refused = count_by says_refused judgments;
}

-- the last line after these judgments
abbrev pub total_line : BatchFormat → BatchMethod → List Judgment → List ℕ
total_line format method judgments = batch_total_text format method (tally_of judgments)

-- ---- a text that can't be read

-- in JSON
unfoldable pub unread_json : List ℕ → List ℕ
unread_json label = codes "{" ++ (label ++ codes "\"fault\":\"Read\"}\n")

-- in JUnit's XML
abbrev pub unread_suite : List ℕ → List ℕ
unread_suite label = junit_suite label (codes "text") one_error (codes "><error message=\"FAULT Read\"/></testcase>")

-- what stands in place of the lines of a text that has this label
abbrev pub unread_line : BatchFormat → List ℕ → List ℕ
unread_line Words label = label ++ codes "FAULT Read\n"
unread_line Json label = unread_json label
unread_line Junit label = unread_suite label

-- the last note, where a text can't be read
abbrev pub read_fault_text : Bool → List ℕ
read_fault_text is_unread = if is_unread then codes "FAULT Read\n" else []

-- ---- which traces are printed

-- in words
unfoldable pub kept_words : List ℕ → ℕ → ℕ → List ℕ
kept_words label kept number = label ++ (codes "kept " ++ (decimal kept ++ (codes " trace " ++ (decimal number ++ codes "\n"))))

-- in JSON
unfoldable pub kept_json : List ℕ → ℕ → ℕ → List ℕ
kept_json label kept number = codes "{" ++ (label ++ (codes "\"kept\":" ++ (decimal kept ++ (codes ",\"trace\":" ++ (decimal number ++ codes "}\n")))))

-- the first number is that of the text among those that are printed, the other that of the trace in the text that has this label
abbrev pub kept_line : BatchFormat → List ℕ → ℕ → ℕ → List ℕ
kept_line Json label kept number = kept_json label kept number
kept_line format label kept number = kept_words label kept number

-- ---- whether as many were judged as have to be

-- so many are fewer than have to be
abbrev pub are_too_few : Option ℕ → ℕ → Bool
are_too_few required count = nat_lt count (unwrap_or required 0)

-- the line that says how many were judged, and how many have to be
unfoldable pub few_line : ℕ → ℕ → List ℕ
few_line count required = codes "TOO FEW JUDGED " ++ (decimal count ++ (codes " required " ++ (decimal required ++ codes "\n")))

-- that line where too few were judged, and else nothing
abbrev pub few_text : Option ℕ → ℕ → List ℕ
few_text required count = if are_too_few required count then few_line count (unwrap_or required 0) else []

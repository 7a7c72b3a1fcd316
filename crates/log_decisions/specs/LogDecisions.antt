-- What is decided of a log, and the text that says it.
use Rattle.std.specs.Prelude.{◌≡◌, ◌⊎◌, ℕ, List, [], ◌++◌, length, codes, Option}
use Rattle.std.specs.Fmt.{decimal}
use Rattle.tso_ops.specs.Values.{TraceValue}
use Rattle.tso_model.specs.Axioms.{IsConsistent}
use Rattle.tso_text.specs.declared.faults.Why.{Why}
use Rattle.text_streams.specs.Readings.{ReadsAs}
use Rattle.log_text.specs.LogTexts.{IsEndedAsNeeded, IsLogRefusal, SpellsLog}
use Rattle.log_text.specs.LogValues.{NumberedLog, log_operations}
use Rattle.log_thinning.specs.IdleSwaps.{with_idle_swaps_read}
use Rattle.value_evidence.specs.declared.refutations.LogEvidence.TheVariants.{Order, Refutation}
use Rattle.value_texts.specs.declared.names.EventName.{EventName}
use Rattle.value_texts.specs.Names.{event_names}
use Rattle.value_texts.specs.Printed.{evidence_text_of_log, log_evidence_value}
use Rattle.log_evidence.specs.LogChecks.{LogEvidenceHolds, answer_of_holding}
use Rattle.trace_reports.specs.declared.answers.Answer.{Answer}
use Rattle.trace_reports.specs.declared.answers.Answer.TheVariants as answers
use Rattle.trace_reports.specs.Reports.{rendered_refusal}
use Rattle.log_decisions.specs.declared.deciding.LogQuestion.{LogQuestion}
use Rattle.log_decisions.specs.declared.decisions.LogDecision.{LogDecision}
use Rattle.log_decisions.specs.declared.decisions.LogDecision.TheVariants.{Decided, Undecided}

-- The decision on operations: evidence that holds, or, after as many cases as were allowed, nothing.
abbrev pub IsLogDecision : ℕ → TraceValue → LogDecision → Type 0
IsLogDecision effort t (Decided e) = LogEvidenceHolds t (log_evidence_value e)
IsLogDecision effort t (Undecided cases) = cases ≡ effort

-- what a decision says
abbrev pub answer_of_log : LogDecision → Answer
answer_of_log (Decided e) = answer_of_holding (log_evidence_value e)
answer_of_log (Undecided cases) = answers.Undecided

-- what an answer says of operations: that they have an order of their memory model, that they have none, or nothing
abbrev pub SaysOfLog : TraceValue → Answer → Type 0
SaysOfLog t answers.Clear = IsConsistent t
SaysOfLog t answers.Violation = IsConsistent t → ⊥
SaysOfLog t answers.Undecided = Unit {0}
SaysOfLog t answers.Refused = Unit {0}
SaysOfLog t answers.Unread = Unit {0}

-- ---- the text of a decision on a log whose idle swaps are read

-- the line of the answer
abbrev pub log_answer_line : LogDecision → List ℕ
log_answer_line (Decided (Order order)) = codes "CONSISTENT\n"
log_answer_line (Decided (Refutation lines)) = codes "VIOLATION\n"
log_answer_line (Undecided cases) = codes "UNDECIDED " ++ decimal cases ++ codes "\n"

-- the first lines: how many processors and events the log has, how many operations are left out, and the answer
abbrev pub log_decision_head : NumberedLog → LogDecision → List ℕ
log_decision_head read d =
    codes "TSO LOG DECISION 1\nprocessors " ++ decimal (length read.lists) ++ codes " events " ++ decimal (length (event_names read)) ++ codes " left "
    ++ decimal read.left_out ++ codes "\n" ++ log_answer_line d

-- the evidence, where there is any
abbrev pub log_evidence_shown : List EventName → LogDecision → List ℕ
log_evidence_shown names (Decided e) = evidence_text_of_log names (log_evidence_value e)
log_evidence_shown names (Undecided cases) = []

-- the text
abbrev pub log_decision_text : NumberedLog → LogDecision → List ℕ
log_decision_text read d = log_decision_head read d ++ log_evidence_shown (event_names read) d

-- ---- texts that follow from a decision, or from the refusal of an input

-- the text and the answer are those of a decision on the log with its idle swaps read, after so many cases at most
abbrev pub IsDecisionOfLog : ℕ → NumberedLog → List ℕ → Answer → Type 0
IsDecisionOfLog effort log text answer =
    (d : LogDecision) × IsLogDecision effort (log_operations (with_idle_swaps_read log)) d × (text ≡ log_decision_text (with_idle_swaps_read log) d)
    × (answer ≡ answer_of_log d)

-- The text is that of a decision on the log that the input spells, or of the refusal of the input: it is no log, or lacks the line `end` that is needed.
abbrev pub IsLogDecisionText : LogQuestion → List ℕ → List ℕ → Answer → Type 0
IsLogDecisionText question input text answer =
    ((log : NumberedLog) × SpellsLog input log × IsEndedAsNeeded question.needs_end input × IsDecisionOfLog question.effort log text answer)
    ⊎ ((line : ℕ) × (why : Why) × IsLogRefusal question.needs_end input line why × (text ≡ rendered_refusal input line why) × (answer ≡ answers.Refused))

-- the same of the bytes of a reader
abbrev pub IsLogDecisionOfReader : LogQuestion → Option (List ℕ) → List ℕ → Answer → Type 0
IsLogDecisionOfReader question remaining text answer = ReadsAs remaining (λ input. IsLogDecisionText question input text answer)

-- The line on evidence about a log: whether it holds, or why it is refused.
use Rattle.std.specs.Prelude.{◌≡◌, ◌⊎◌, ◌≤◌, ℕ, false, List, ◌++◌, length, codes, Option}
use Rattle.std.specs.Fmt.{decimal}
use Rattle.tso_ops.specs.Values.{TraceValue}
use Rattle.tso_model.specs.Axioms.{IsModelOrder}
use Rattle.tso_text.specs.declared.faults.Why.{Why}
use Rattle.text_streams.specs.Readings.{ReadsAs}
use Rattle.log_text.specs.LogTexts.{IsLogRefusal, SpellsLog}
use Rattle.log_text.specs.LogValues.{NumberedLog, log_operations}
use Rattle.log_thinning.specs.IdleSwaps.{with_idle_swaps_read}
use Rattle.value_evidence.specs.declared.refutations.ValueRefutationLine.{ValueRefutationLine}
use Rattle.value_evidence.specs.Refutations.{ValueRefutationHolds}
use Rattle.value_texts.specs.declared.names.EventName.{EventName}
use Rattle.value_texts.specs.declared.refusals.ValueTextRefusal.{ValueTextRefusal}
use Rattle.value_texts.specs.Names.{event_names}
use Rattle.value_texts.specs.Printed.{LogEvidenceValue, order_of, refutation_of, event_token}
use Rattle.value_texts.specs.RefusalNames.{value_refusal_name}
use Rattle.value_texts.specs.Spelling.{IsValueTextRefusal, SpellsLogEvidence}
use Rattle.order_check.specs.declared.faults.OrderFault.{OrderFault}
use Rattle.order_check.specs.declared.faults.OrderFault.TheVariants.{NotAnEvent, Repeated, Missing, Broken}
use Rattle.order_check.specs.Refusals.{IsOrderRefusal, axiom_name}
use Rattle.value_check.specs.declared.refusals.ValueRefutationFault.{ValueRefutationFault}
use Rattle.value_check.specs.declared.refusals.ValueRefutationFault.TheVariants.{Misplaced, Unfinished, StepRefused, CaseRefused, EndRefused}
use Rattle.value_check.specs.RefutationRefusals.{IsValueRefutationRefusal}
use Rattle.trace_reports.specs.declared.answers.Answer.{Answer}
use Rattle.trace_reports.specs.declared.answers.Answer.TheVariants.{Clear, Violation, Refused}
use Rattle.trace_reports.specs.Reports.{rendered_refusal}
use Rattle.trace_judging.specs.Limits.{certificate_byte_limit}

-- ---- texts

-- the line of evidence that holds
abbrev pub holding_line_text : LogEvidenceValue → List ℕ
holding_line_text (order_of numbers) = codes "ORDER HOLDS\n"
holding_line_text (refutation_of lines) = codes "REFUTATION HOLDS\n"

-- the refusal of an order, with its place in the line or the name of the event
abbrev pub log_order_fault_text : List EventName → OrderFault → List ℕ
log_order_fault_text names (NotAnEvent place) = codes "NotAnEvent place " ++ decimal place
log_order_fault_text names (Repeated place) = codes "Repeated place " ++ decimal place
log_order_fault_text names (Missing event) = codes "Missing event " ++ event_token names event
log_order_fault_text names (Broken law event) = axiom_name law ++ codes " event " ++ event_token names event

-- the refusal of a refutation, with its line where it has one
abbrev pub value_fault_text : ValueRefutationFault → List ℕ
value_fault_text (Misplaced line) = codes "Misplaced line " ++ decimal line
value_fault_text Unfinished = codes "Unfinished"
value_fault_text (StepRefused line) = codes "StepRefused line " ++ decimal line
value_fault_text (CaseRefused line) = codes "CaseRefused line " ++ decimal line
value_fault_text (EndRefused line) = codes "EndRefused line " ++ decimal line

-- the line of an order that doesn't hold, where events have these names; and of a refutation
abbrev pub log_order_refused_text : List EventName → OrderFault → List ℕ
log_order_refused_text names fault = codes "ORDER REFUSED " ++ log_order_fault_text names fault ++ codes "\n"

abbrev pub values_refused_text : ValueRefutationFault → List ℕ
values_refused_text fault = codes "REFUTATION REFUSED " ++ value_fault_text fault ++ codes "\n"

-- the line of a refused text of evidence
abbrev pub values_unread_text : ℕ → ValueTextRefusal → List ℕ
values_unread_text line why = codes "EVIDENCE REFUSED " ++ value_refusal_name why ++ codes " line " ++ decimal line ++ codes "\n"

-- ---- the report on evidence about a log whose idle swaps are read

-- the evidence holds of the operations of a log: the order is one of its memory model, or the refutation holds
abbrev pub LogEvidenceHolds : TraceValue → LogEvidenceValue → Type 0
LogEvidenceHolds t (order_of numbers) = IsModelOrder t numbers
LogEvidenceHolds t (refutation_of lines) = ValueRefutationHolds t lines

-- the answer of evidence that holds
abbrev pub answer_of_holding : LogEvidenceValue → Answer
answer_of_holding (order_of numbers) = Clear
answer_of_holding (refutation_of lines) = Violation

-- The text is the line of evidence that doesn't hold, by its refusal; events have these names.
abbrev pub IsLogFailureLine : TraceValue → List EventName → LogEvidenceValue → List ℕ → Type 0
IsLogFailureLine t names (order_of numbers) text = (fault : OrderFault) × IsOrderRefusal t numbers fault × (text ≡ log_order_refused_text names fault)
IsLogFailureLine t names (refutation_of lines) text = (fault : ValueRefutationFault) × IsValueRefutationRefusal t lines fault × (text ≡ values_refused_text fault)

-- The text is the line on this evidence about the operations of a log, and the answer is what it says.
abbrev pub IsValueLine : TraceValue → List EventName → LogEvidenceValue → List ℕ → Answer → Type 0
IsValueLine t names e text answer =
    (LogEvidenceHolds t e × (text ≡ holding_line_text e) × (answer ≡ answer_of_holding e))
    ⊎ (IsLogFailureLine t names e text × (answer ≡ Refused))

-- The text is the line on the evidence that the input spells, or on its refusal.
abbrev pub IsValueReport : NumberedLog → List ℕ → List ℕ → Answer → Type 0
IsValueReport log input text answer =
    ((e : LogEvidenceValue) × SpellsLogEvidence (event_names log) input e × IsValueLine (log_operations log) (event_names log) e text answer)
    ⊎ ((line : ℕ) × (why : ValueTextRefusal) × IsValueTextRefusal (event_names log) input line why × (text ≡ values_unread_text line why) × (answer ≡ Refused))

-- ---- the report on two texts

-- the text is refused as that of a log, which needs no line `end`
abbrev pub IsRefusedLog : List ℕ → Type 0
IsRefusedLog text = (line : ℕ) × (why : Why) × IsLogRefusal false text line why

-- The text is the report on two texts: on evidence, whose text keeps its limit, about the log that the first spells, with its idle swaps read; or it is
-- that of the first one's refusal.
abbrev pub IsLogCheck : List ℕ → List ℕ → List ℕ → Answer → Type 0
IsLogCheck log evidence text answer =
    ((read : NumberedLog) × SpellsLog log read × (length evidence ≤ certificate_byte_limit) × IsValueReport (with_idle_swaps_read read) evidence text answer)
    ⊎ ((line : ℕ) × (why : Why) × IsLogRefusal false log line why × (text ≡ rendered_refusal log line why) × (answer ≡ Refused))

-- the same of the evidence that a reader has, and of the text of a log
abbrev pub IsLogCheckOfReader : Option (List ℕ) → List ℕ → List ℕ → Answer → Type 0
IsLogCheckOfReader evidence log text answer = ReadsAs evidence (λ input. IsLogCheck log input text answer)

-- the same of the bytes of two readers, of a log and of evidence
abbrev pub IsLogCheckOfReaders : Option (List ℕ) → Option (List ℕ) → List ℕ → Answer → Type 0
IsLogCheckOfReaders logs evidence text answer = ReadsAs logs (λ log. IsLogCheckOfReader evidence log text answer)

-- the first text spells a log, and the second this evidence on it, with its idle swaps read, which holds
abbrev pub SpellHoldingEvidence : List ℕ → List ℕ → LogEvidenceValue → Type 0
SpellHoldingEvidence log evidence e =
    (read : NumberedLog) × SpellsLog log read × SpellsLogEvidence (event_names (with_idle_swaps_read read)) evidence e
    × LogEvidenceHolds (log_operations (with_idle_swaps_read read)) e

-- the same of some refutation, and of some order
abbrev pub SpellRefutedLog : List ℕ → List ℕ → Type 0
SpellRefutedLog log evidence = (lines : List ValueRefutationLine) × SpellHoldingEvidence log evidence (refutation_of lines)

abbrev pub SpellOrderedLog : List ℕ → List ℕ → Type 0
SpellOrderedLog log evidence = (order : List ℕ) × SpellHoldingEvidence log evidence (order_of order)

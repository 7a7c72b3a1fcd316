-- The line on evidence about a trace: whether it holds, or why it is refused.
use Rattle.std.specs.Prelude.{◌≡◌, ◌⊎◌, ℕ, List, ◌++◌, codes, Option}
use Rattle.std.specs.Fmt.{decimal}
use Rattle.tso_ops.specs.Values.{TraceValue}
use Rattle.tso_ops.specs.Events.{IsUnwritten}
use Rattle.tso_evidence.specs.declared.evidence.Evidence.{Evidence}
use Rattle.tso_evidence.specs.declared.evidence.Evidence.TheVariants.{Unwritten, Order, Refutation}
use Rattle.tso_evidence.specs.declared.faults.EvidenceFault.{EvidenceFault}
use Rattle.tso_evidence.specs.RefusalNames.{evidence_refusal_name}
use Rattle.tso_evidence.specs.Spelling.{SpellsEvidence, IsEvidenceTextRefusal}
use Rattle.order_check.specs.declared.faults.OrderFault.{OrderFault}
use Rattle.order_check.specs.declared.faults.OrderFault.TheVariants.{NotAnEvent, Repeated, Missing, Broken}
use Rattle.order_check.specs.Refusals.{IsOrderRefusal, axiom_name}
use Rattle.refutation_check.specs.declared.faults.RefutationFault.{RefutationFault}
use Rattle.refutation_check.specs.declared.faults.RefutationFault.TheVariants.{Misplaced, Unfinished, EventRange, BaseRefused, SideRefused, PathUnlisted, CaseRefused, CycleUnlisted, EmptyCycle}
use Rattle.refutation_check.specs.Refusals.{IsRefutationRefusal}
use Rattle.trace_judging.specs.Evidence.{IsReportOfReaders, IsReportOfTexts}
use Rattle.trace_reports.specs.declared.answers.Answer.{Answer}
use Rattle.trace_reports.specs.declared.answers.Answer.TheVariants.{Refused}
use Rattle.trace_decisions.specs.Decisions.{HoldsFor}
use Rattle.trace_decisions.specs.DecisionTexts.{answer_by}

-- ---- texts

-- the line of evidence that holds
abbrev pub evidence_holds_text : Evidence → List ℕ
evidence_holds_text (Order order) = codes "ORDER HOLDS\n"
evidence_holds_text (Unwritten n) = codes "REFUTATION HOLDS\n"
evidence_holds_text (Refutation lines) = codes "REFUTATION HOLDS\n"

-- the refusal of an order, with its place
abbrev pub order_fault_text : OrderFault → List ℕ
order_fault_text (NotAnEvent place) = codes "NotAnEvent place " ++ decimal place
order_fault_text (Repeated place) = codes "Repeated place " ++ decimal place
order_fault_text (Missing event) = codes "Missing event " ++ decimal event
order_fault_text (Broken law event) = axiom_name law ++ codes " event " ++ decimal event

-- the refusal of a refutation, with its line where it has one
abbrev pub refutation_fault_text : RefutationFault → List ℕ
refutation_fault_text (Misplaced line) = codes "Misplaced line " ++ decimal line
refutation_fault_text Unfinished = codes "Unfinished"
refutation_fault_text EventRange = codes "EventRange"
refutation_fault_text (BaseRefused line) = codes "BaseRefused line " ++ decimal line
refutation_fault_text (SideRefused line) = codes "SideRefused line " ++ decimal line
refutation_fault_text (PathUnlisted line) = codes "PathUnlisted line " ++ decimal line
refutation_fault_text (CaseRefused line) = codes "CaseRefused line " ++ decimal line
refutation_fault_text (CycleUnlisted line) = codes "CycleUnlisted line " ++ decimal line
refutation_fault_text (EmptyCycle line) = codes "EmptyCycle line " ++ decimal line

-- the line of a refused text of evidence
abbrev pub evidence_refusal_text : ℕ → EvidenceFault → List ℕ
evidence_refusal_text line why = codes "EVIDENCE REFUSED " ++ evidence_refusal_name why ++ codes " line " ++ decimal line ++ codes "\n"

-- ---- the report of a text of evidence on a trace

-- The text is the line of evidence that doesn't hold, by its refusal.
abbrev pub IsFailureLine : TraceValue → Evidence → List ℕ → Type 0
IsFailureLine t (Unwritten n) text = (IsUnwritten t n → ⊥) × (text ≡ codes "REFUTATION REFUSED NotUnwritten\n")
IsFailureLine t (Order order) text = (fault : OrderFault) × IsOrderRefusal t order fault × (text ≡ codes "ORDER REFUSED " ++ order_fault_text fault ++ codes "\n")
IsFailureLine t (Refutation lines) text =
    (fault : RefutationFault) × IsRefutationRefusal t lines fault × (text ≡ codes "REFUTATION REFUSED " ++ refutation_fault_text fault ++ codes "\n")

-- The text is the line on this evidence about the trace, and the answer is what it says.
abbrev pub IsEvidenceLine : TraceValue → Evidence → List ℕ → Answer → Type 0
IsEvidenceLine t e text answer =
    (HoldsFor t e × (text ≡ evidence_holds_text e) × (answer ≡ answer_by e))
    ⊎ (IsFailureLine t e text × (answer ≡ Refused))

-- The text is the line on the evidence that the input spells, or on its refusal.
abbrev pub IsEvidenceReport : TraceValue → List ℕ → List ℕ → Answer → Type 0
IsEvidenceReport t input text answer =
    ((e : Evidence) × SpellsEvidence input e × IsEvidenceLine t e text answer)
    ⊎ ((line : ℕ) × (why : EvidenceFault) × IsEvidenceTextRefusal input line why × (text ≡ evidence_refusal_text line why) × (answer ≡ Refused))

-- ---- the report of two texts

-- the text is the line on a trace's text and on that of evidence
abbrev pub IsVerification : List ℕ → List ℕ → List ℕ → Answer → Type 0
IsVerification trace evidence text answer = IsReportOfTexts IsEvidenceReport Refused trace evidence text answer

-- the same of the bytes of two readers
abbrev pub IsVerificationOfReaders : Option (List ℕ) → Option (List ℕ) → List ℕ → Answer → Type 0
IsVerificationOfReaders traces evidence text answer = IsReportOfReaders IsEvidenceReport Refused traces evidence text answer

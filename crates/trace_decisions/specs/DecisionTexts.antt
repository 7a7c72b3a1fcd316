-- The text of a decision on a trace.
use Rattle.std.specs.Prelude.{ℕ, List, [], ◌++◌, codes, Option}
use Rattle.std.specs.Fmt.{decimal}
use Rattle.tso_ops.specs.Values.{TraceValue}
use Rattle.tso_ops.specs.Events.{processor_count, event_total}
use Rattle.tso_model.specs.Axioms.{IsConsistent}
use Rattle.tso_evidence.specs.declared.evidence.Evidence.{Evidence}
use Rattle.tso_evidence.specs.declared.evidence.Evidence.TheVariants.{Order}
use Rattle.tso_evidence.specs.Printed.{evidence_text}
use Rattle.trace_reports.specs.Renderings.{IsRendered, IsTextOf, IsTextOfBytes, RendersRefusal}
use Rattle.trace_reports.specs.Violations.{IsViolation}
use Rattle.trace_reports.specs.declared.answers.Answer.{Answer}
use Rattle.trace_reports.specs.declared.answers.Answer.TheVariants.{Clear, Violation, Undecided as NotDecided, Refused, Unread}
use Rattle.trace_decisions.specs.declared.decisions.Decision.{Decision}
use Rattle.trace_decisions.specs.declared.decisions.Decision.TheVariants.{Decided, Undecided}
use Rattle.trace_decisions.specs.Decisions.{IsDecision}

-- what evidence that holds says of its trace
abbrev pub answer_by : Evidence → Answer
answer_by (Order order) = Clear
answer_by _ = Violation

-- what a decision says
abbrev pub answer_of : Decision → Answer
answer_of (Decided e) = answer_by e
answer_of (Undecided steps) = NotDecided

-- what an answer says of a trace
abbrev pub AnswerSays : TraceValue → Answer → Type 0
AnswerSays t Clear = IsConsistent t
AnswerSays t Violation = IsConsistent t → ⊥
AnswerSays t NotDecided = IsViolation t → ⊥
AnswerSays t Refused = Unit {0}
AnswerSays t Unread = Unit {0}

-- the line that says whether there is an order
abbrev pub answer_line : Evidence → List ℕ
answer_line (Order order) = codes "CONSISTENT\n"
answer_line _ = codes "VIOLATION\n"

-- the line of the answer
abbrev pub decided_line : Decision → List ℕ
decided_line (Decided e) = answer_line e
decided_line (Undecided steps) = codes "UNDECIDED " ++ decimal steps ++ codes "\n"

-- the first lines: how many processors and events the trace has, and the answer
abbrev pub decision_head : TraceValue → Decision → List ℕ
decision_head t d = codes "TSO DECISION 1\nprocessors " ++ decimal (processor_count t) ++ codes " events " ++ decimal (event_total t) ++ codes "\n" ++ decided_line d

-- the evidence, where there is any
abbrev pub rendered_evidence : Decision → List ℕ
rendered_evidence (Decided e) = evidence_text e
rendered_evidence (Undecided steps) = []

-- the text of a decision on a trace
abbrev pub decision_text : TraceValue → Decision → List ℕ
decision_text t d = decision_head t d ++ rendered_evidence d

-- ---- texts that follow from a decision, or from the refusal of an input

-- the text is rendered of the trace by a decision after so many steps
abbrev pub IsDecisionText : (TraceValue → Decision → List ℕ) → ℕ → TraceValue → List ℕ → Answer → Type 0
IsDecisionText renders effort t text answer = IsRendered (IsDecision effort) answer_of renders t text answer

-- the text is rendered of a decision on the trace that the input spells, or of the refusal of the input
abbrev pub IsDecisionOf : (TraceValue → Decision → List ℕ) → RendersRefusal → ℕ → List ℕ → List ℕ → Answer → Type 0
IsDecisionOf renders refused effort input text answer = IsTextOf (IsDecisionText renders effort) Refused refused input text answer

-- the same of the bytes of a reader
abbrev pub IsDecisionOfReader : (TraceValue → Decision → List ℕ) → RendersRefusal → ℕ → Option (List ℕ) → List ℕ → Answer → Type 0
IsDecisionOfReader renders refused effort remaining text answer = IsTextOfBytes (IsDecisionText renders effort) Refused refused remaining text answer

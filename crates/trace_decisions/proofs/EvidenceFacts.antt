-- What lines on evidence say.
use Rattle.std.proofs.Common.{List, inl, inr, sym, subst, ℕ}
use Rattle.tso_ops.specs.Limits.{IsTrace}
use Rattle.tso_ops.specs.Values.{TraceValue}
use Rattle.tso_evidence.specs.declared.evidence.Evidence.{Evidence}
use Rattle.trace_reports.specs.declared.answers.Answer.{Answer}
use Rattle.trace_decisions.specs.DecisionTexts.{AnswerSays}
use Rattle.trace_decisions.specs.EvidenceReports.{IsEvidenceLine}
use Rattle.trace_decisions.proofs.DecisionFacts.{says}

-- what a line on evidence says of its trace
pub line_says : (t : TraceValue) → IsTrace t → (e : Evidence) (text : List ℕ) (answer : Answer) → IsEvidenceLine t e text answer → AnswerSays t answer
line_says t trace e text answer line = elim line [
  | inl holds ↦ subst (AnswerSays t) (sym holds.2) (says t trace e holds.0)
  | inr fails ↦ subst (AnswerSays t) (sym fails.1) tt
]

-- What decisions say.
use Rattle.tso_ops.specs.Values.{TraceValue}
use Rattle.tso_ops.specs.Limits.{IsTrace}
use Rattle.tso_ops.proofs.NumberFacts.{own_values}
use Rattle.std.proofs.Common.{ℕ}
use Rattle.tso_model.proofs.EdgesForward.{all_written}
use Rattle.tso_evidence.specs.declared.evidence.Evidence.{Evidence}
use Rattle.tso_evidence.specs.declared.evidence.Evidence.TheVariants.{Unwritten, Order, Refutation}
use Rattle.refutation_check.proofs.TreeFacts.{not_consistent}
use Rattle.trace_decisions.specs.declared.decisions.Decision.{Decision}
use Rattle.trace_decisions.specs.declared.decisions.Decision.TheVariants.{Decided, Undecided}
use Rattle.trace_decisions.specs.Decisions.{HoldsFor, IsDecision}
use Rattle.trace_decisions.specs.DecisionTexts.{answer_by, answer_of, AnswerSays}

-- what evidence that holds says
pub says : (t : TraceValue) → IsTrace t → (e : Evidence) → HoldsFor t e → AnswerSays t (answer_by e)
says t trace (Unwritten n) holds = λ consistent. all_written t consistent.0 consistent.1 n holds
says t trace (Order order) holds = (order, holds)
says t trace (Refutation lines) holds = not_consistent t (own_values t trace) lines holds

pub decision_says : (effort : ℕ) (t : TraceValue) → IsTrace t → (d : Decision) → IsDecision effort t d → AnswerSays t (answer_of d)
decision_says effort t trace (Decided e) is = says t trace e is
decision_says effort t trace (Undecided steps) is = is.1

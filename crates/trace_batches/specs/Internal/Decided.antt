-- What is said of a trace by a decision on it.
use Rattle.std.specs.Prelude.{Bool, true, false, cond}
use Rattle.tso_ops.specs.Values.{TraceValue}
use Rattle.tso_evidence.specs.declared.evidence.Evidence.{Evidence}
use Rattle.tso_evidence.specs.declared.evidence.Evidence.TheVariants.{Unwritten, Order, Refutation}
use Rattle.trace_decisions.specs.declared.decisions.Decision.{Decision}
use Rattle.trace_decisions.specs.declared.decisions.Decision.TheVariants as decided
use Rattle.decision_explanation.specs.Explained.{decision_explained}
use Rattle.trace_batches.specs.declared.judgments.Judgment.{Judgment}
use Rattle.trace_batches.specs.declared.judgments.Judgment.TheVariants.{Violation, Consistent, Undecided}
use Rattle.trace_batches.specs.Judgments.{body_of}

abbrev pub is_order : Evidence → Bool
is_order (Unwritten n) = false
is_order (Order order) = true
is_order (Refutation lines) = false

abbrev pub judgment_of : Bool → TraceValue → Decision → Judgment
judgment_of explains t (decided.Decided e) = cond (is_order e) Consistent (Violation (body_of explains (decision_explained t (decided.Decided e))))
judgment_of explains t (decided.Undecided steps) = Undecided steps

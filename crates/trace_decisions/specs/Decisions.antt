-- What evidence says of a trace, and what is decided of one.
use Rattle.std.specs.Prelude.{◌≡◌, ℕ}
use Rattle.tso_ops.specs.Values.{TraceValue}
use Rattle.tso_ops.specs.Events.{IsUnwritten}
use Rattle.tso_model.specs.Axioms.{IsModelOrder}
use Rattle.tso_evidence.specs.declared.evidence.Evidence.{Evidence}
use Rattle.tso_evidence.specs.declared.evidence.Evidence.TheVariants.{Unwritten, Order, Refutation}
use Rattle.refutation_check.specs.Refutations.{RefutationHolds}
use Rattle.trace_reports.specs.Violations.{IsViolation}
use Rattle.trace_decisions.specs.declared.decisions.Decision.{Decision}
use Rattle.trace_decisions.specs.declared.decisions.Decision.TheVariants.{Decided, Undecided}

-- The evidence holds for the trace: an order meets the axioms, a refutation holds, a load is unwritten.
abbrev pub HoldsFor : TraceValue → Evidence → Type 0
HoldsFor t (Unwritten n) = IsUnwritten t n
HoldsFor t (Order order) = IsModelOrder t order
HoldsFor t (Refutation lines) = RefutationHolds t lines

-- The decision on the trace: evidence that holds, or, after as many steps as were allowed, only that it is no violation by the rules.
abbrev pub IsDecision : ℕ → TraceValue → Decision → Type 0
IsDecision effort t (Decided e) = HoldsFor t e
IsDecision effort t (Undecided steps) = (steps ≡ effort) × (IsViolation t → ⊥)

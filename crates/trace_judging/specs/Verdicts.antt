-- What a verdict says of a trace.
use Rattle.std.specs.Prelude.{◌≡◌, ◌↔◌}
use Rattle.tso_ops.specs.Values.{TraceValue}
use Rattle.tso_model.specs.Axioms.{IsConsistent}
use Rattle.trace_reports.specs.declared.verdicts.Verdict.{Verdict}
use Rattle.trace_reports.specs.declared.verdicts.Verdict.TheVariants.{Violation}
use Rattle.trace_reports.specs.Violations.{IsViolation}

-- Violation says that the trace is one, and so that it has no order of its model; the others say that it is none.
pub record VerdictSays (t : TraceValue) (verdict : Verdict) : Type 0 where
  pub violation : (verdict ≡ Violation) ↔ IsViolation t
  pub no_order : verdict ≡ Violation → IsConsistent t → ⊥

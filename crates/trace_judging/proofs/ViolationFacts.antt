-- Lemmas on whether a trace is a violation.
use Rattle.std.proofs.Common.{◌≡◌, ◌↔◌, ℕ, Bool, true, inr, ⊎_elim}
use Rattle.std.specs.Prelude.{IsTrue, MatchOption, None, Option, Some, is_some}
use Rattle.tso_cert.specs.declared.steps.Certificate.{Certificate}
use Rattle.tso_model.specs.Axioms.{IsConsistent}
use Rattle.tso_model.specs.Certs.{IsCertificateOf}
use Rattle.tso_model.specs.Rules.{HasDerivedCycle}
use Rattle.tso_model.proofs.CertificateCause.{certificate_cause}
use Rattle.tso_ops.proofs.NumberFacts.{own_values}
use Rattle.tso_ops.specs.Events.{IsUnwritten}
use Rattle.tso_ops.specs.Limits.{IsTrace}
use Rattle.tso_ops.specs.Values.{TraceValue}
use Rattle.trace_reports.specs.Violations.{IsViolation}
use Rattle.trace_reports.proofs.RenderingFacts.{violation_leaves_none}

-- a violation has no order
pub violation_no_order : (t : TraceValue) → IsTrace t → IsViolation t → IsConsistent t → ⊥
violation_no_order t kept violation consistent = violation_leaves_none t (own_values t kept) violation consistent

-- what has a certificate is a violation
pub certified : (t : TraceValue) (found : Option Certificate) → MatchOption found (IsViolation t → ⊥) (IsCertificateOf t) → is_some found ≡ true → IsViolation t
certified t None nothing some = absurd cc
certified t (Some c) is some = certificate_cause t c is

-- where each load is written, a violation is a derived cycle
pub violation_by_cycle : (t : TraceValue) (is : Bool) → ((l : ℕ) → IsUnwritten t l → ⊥) → IsTrue is ↔ HasDerivedCycle t → IsTrue is ↔ IsViolation t
violation_by_cycle t is written cycle =
    (λ yes. inr (cycle.0 yes), λ violation. ⊎_elim (λ (unwritten : (l : ℕ) × IsUnwritten t l). absurd (written unwritten.0 unwritten.1)) (λ (derived : HasDerivedCycle t). cycle.1 derived) violation)

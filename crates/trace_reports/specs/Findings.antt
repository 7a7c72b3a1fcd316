-- What is found of a trace before its report is written.
use Rattle.std.specs.Prelude.{MatchOption}
use Rattle.tso_ops.specs.Values.{TraceValue}
use Rattle.tso_model.specs.Ranks.{IsRounds}
use Rattle.tso_model.specs.Certs.{IsCertificateOf}
use Rattle.trace_reports.specs.declared.findings.Finding.{Finding}
use Rattle.trace_reports.specs.Violations.{IsViolation}

-- the rounds number, and the certificate, or none where the trace is no violation
pub record IsFinding (t : TraceValue) (f : Finding) : Type 0 where
  pub rounds : IsRounds t f.rounds
  pub certificate : MatchOption f.certificate (IsViolation t → ⊥) (IsCertificateOf t)

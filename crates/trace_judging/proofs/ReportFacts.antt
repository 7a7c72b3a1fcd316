-- Lemmas on what is found of a trace.
use Rattle.std.proofs.Common.{ℕ, ◌<◌, ◌≤◌, arith, inl, inr, refl, ⊎_elim}
use Rattle.std.specs.Prelude.{Option, None, Some, MatchOption}
use Rattle.std.specs.Option.{option_map_or}
use Rattle.std.proofs.lemmas.Bool.{cases_lt}
use Rattle.order_paths.specs.Paths.{HasCycle}
use Rattle.tso_ops.specs.Limits.{IsTrace}
use Rattle.tso_ops.specs.Values.{TraceValue}
use Rattle.tso_ops.specs.Events.{event_total, IsUnwritten}
use Rattle.tso_cert.specs.declared.steps.Certificate.{Certificate}
use Rattle.tso_model.specs.Certs.{IsCertificateOf}
use Rattle.tso_model.specs.Ranks.{RankSet, IsRounds}
use Rattle.tso_model.specs.Rules.{HasDerivedCycle}
use Rattle.tso_model.proofs.CertificateCause.{certificate_cause}
use Rattle.tso_ops.proofs.NumberFacts.{event_at-within, own_values}
use Rattle.trace_reports.specs.declared.findings.Finding.{Finding}
use Rattle.trace_reports.specs.declared.verdicts.Verdict.TheVariants.{NoViolation, Violation}
use Rattle.trace_reports.specs.Findings.{IsFinding}
use Rattle.trace_reports.specs.Violations.{IsViolation}
use Rattle.trace_reports.proofs.RenderingFacts.{none_no_violation, violation_leaves_none}
use Rattle.trace_judging.specs.Verdicts.{VerdictSays}

-- ---- unwritten loads

-- the number of an unwritten load is that of an event
pub unwritten-within : (t : TraceValue) (l : ℕ) → IsUnwritten t l → (0 < l) × (l ≤ event_total t)
unwritten-within t l unwritten = event_at-within t l unwritten.0.0 unwritten.0.1

-- no event stands before the first
pub none_below_first : (t : TraceValue) (k : ℕ) → k < 1 → IsUnwritten t k → ⊥
none_below_first t k below unwritten = let above = (unwritten-within t k unwritten).0 in omega arith

-- a number below which none has the property is at most each that has it
pub least_of : (P : ℕ → Type 0) (n : ℕ) → ((k : ℕ) → k < n → P k → ⊥) → (k : ℕ) → P k → n ≤ k
least_of P n none k p = ⊎_elim (λ less. absurd (none k less p)) (λ most. most) (cases_lt k n)

-- ---- what is found

-- no rank set before that of the rounds number has a cycle
pub acyclic_before : (t : TraceValue) (n : ℕ) → ((l : ℕ) → IsUnwritten t l → ⊥) → IsRounds t n → (k : ℕ) → k < n → HasCycle (RankSet t k) → ⊥
acyclic_before t n written (inl none) k low cycle = written none.1.0 none.1.1
acyclic_before t n written (inr made) k low cycle = elim made.1 [
  | inl first ↦ first.1 k low cycle
  | inr last ↦ last.0 k cycle
]

-- what was found, where no load is unwritten
pub finding_written : (t : TraceValue) (found : Option Certificate) → ((l : ℕ) → IsUnwritten t l → ⊥) → MatchOption found (HasDerivedCycle t → ⊥) (IsCertificateOf t) →
    MatchOption found (IsViolation t → ⊥) (IsCertificateOf t)
finding_written t None written none = λ violation. ⊎_elim (λ (unwritten : (l : ℕ) × IsUnwritten t l). written unwritten.0 unwritten.1) (λ (cycle : HasDerivedCycle t). none cycle) violation
finding_written t (Some c) written is = is

-- ---- what a verdict says

pub violation_says : (t : TraceValue) → IsTrace t → IsViolation t → VerdictSays t Violation
violation_says t trace violation = record { violation = (λ _. violation, λ _. refl); no_order = λ _ consistent. violation_leaves_none t (own_values t trace) violation consistent }

pub clear_says : (t : TraceValue) → (IsViolation t → ⊥) → VerdictSays t NoViolation
clear_says t none = record { violation = (λ e. absurd (none_no_violation e), λ violation. absurd (none violation)); no_order = λ e _. absurd (none_no_violation e) }

says_of_found : (t : TraceValue) → IsTrace t → (c : Option Certificate) → MatchOption c (IsViolation t → ⊥) (IsCertificateOf t) → VerdictSays t (option_map_or (λ _. Violation) c NoViolation)
says_of_found t trace None none = clear_says t none
says_of_found t trace (Some c) is = violation_says t trace (certificate_cause t c is)

-- what a finding answers says so of the trace
pub verdict_says : (t : TraceValue) → IsTrace t → (f : Finding) → IsFinding t f → VerdictSays t (option_map_or (λ _. Violation) f.certificate NoViolation)
verdict_says t trace f found = says_of_found t trace f.certificate found.certificate

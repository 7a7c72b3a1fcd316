-- Laws on the report of two texts, that of a trace and that of a certificate.
use Rattle.std.proofs.Common.{◌≡◌, ◌⊎◌, ◌↔◌, ℕ, ◌≤◌, List, length, Some, None, Ok, Err, Result, IfOk, IfSome, refl, ap, sym, subst, ◌∙◌, inl, inr}
use Rattle.std.proofs.lemmas.Bool.{false≢true}
use Rattle.std.specs.Prelude.{Option}
use Rattle.tso_ops.specs.Values.{TraceValue}
use Rattle.tso_ops.specs.Limits.{IsTrace}
use Rattle.tso_text.specs.Texts.{SpellsTrace}
use Rattle.tso_text.proofs.TextLaws.{trace_laws}
use Rattle.tso_cert.proofs.SpellingFacts.{not_both as cert_not_both, one_refusal as one_unread, one_value, spelled_or_refused as spelled_or_unread}
use Rattle.tso_model.specs.Certs.{Holds}
use Rattle.tso_model.specs.Axioms.{IsConsistent}
use Rattle.tso_model.proofs.CertificateHolds.{not_consistent}
use Rattle.tso_ops.proofs.NumberFacts.{own_values}
use Rattle.cert_check.specs.Refusals.{IsCertRefusal}
use Rattle.cert_check.proofs.RefusalExists.{holds_or_refused}
use Rattle.cert_check.proofs.RefusalFacts.{not_refused, one_refusal}
use Rattle.trace_reports.specs.declared.verdicts.Verdict.{Verdict}
use Rattle.trace_reports.specs.declared.verdicts.Verdict.TheVariants.{Violation, Refused}
use Rattle.trace_reports.specs.RefusalLines.{refusal_text}
use Rattle.trace_reports.specs.Reports.{rendered_refusal}
use Rattle.trace_reports.specs.Verdicts.{is_violation}
use Rattle.trace_judging.specs.Checks.{certificate_holds_text, fails_text, certificate_refusal_text, SpellsHolding, SpellHolding, IsFailureReport, IsUnreadReport, IsCertReport, IsCheckReport}
use Rattle.trace_judging.specs.Limits.{certificate_byte_limit}
use Rattle.text_streams.specs.WrittenTexts.{WritesWhole}
use Rattle.text_streams.specs.declared.faults.Fault.{Fault}
use Rattle.trace_judging.specs.WrittenReports.{IsCheckReportOfReaders}
use Rattle.trace_reports.proofs.RenderingFacts.{one_of_refusal}

-- ---- what the verdict says

-- a verdict that is Refused isn't Violation
violation_not_refused : (v : Verdict) → v ≡ Refused → v ≡ Violation → ⊥
violation_not_refused v refused violation = false≢true (ap is_violation (sym refused ∙ violation))

holding_not_refused : (t : TraceValue) (cert text : List ℕ) → SpellsHolding t cert → IsFailureReport t cert text ⊎ IsUnreadReport cert text → ⊥
holding_not_refused t cert text holds (inl p) = not_refused t p.0 p.1 (subst (Holds t) (one_value cert holds.0 p.0 holds.1 p.2) holds.2) p.3
holding_not_refused t cert text holds (inr p) = cert_not_both cert holds.0 p.0 p.1 holds.1 p.2

pub cert_violation : (t : TraceValue) (cert text : List ℕ) (v : Verdict) → IsCertReport t cert text v → (v ≡ Violation) ↔ SpellsHolding t cert
cert_violation t cert text v (inl p) = (λ _. p.0, λ _. p.2)
cert_violation t cert text v (inr p) = (λ e. absurd (violation_not_refused v p.1 e), λ holds. absurd (holding_not_refused t cert text holds p.0))

-- VIOLATION exactly where the texts spell a trace and a certificate that holds for it
pub check_violation : (trace cert text : List ℕ) (v : Verdict) → IsCheckReport trace cert text v → (v ≡ Violation) ↔ SpellHolding trace cert
check_violation trace cert text v (inl p) =
    let said = cert_violation p.0 cert text v p.2.1 in
    (λ e. (p.0, p.1, said.0 e), λ s. said.1 (subst (λ t. SpellsHolding t cert) (trace_laws.one_value trace s.0 p.0 s.1 p.1) s.2))
check_violation trace cert text v (inr p) =
    (λ e. absurd (violation_not_refused v p.4 e), λ s. absurd (trace_laws.not_both trace s.0 p.0 p.1 s.1 p.2))

violation_of_readers : (traces certs : Option (List ℕ)) (text : List ℕ) (v : Verdict) → IsCheckReportOfReaders traces certs text v →
    IfSome traces (λ trace. IfSome certs (λ cert. (v ≡ Violation) ↔ SpellHolding trace cert))
violation_of_readers None certs text v report = tt
violation_of_readers (Some trace) None text v report = tt
violation_of_readers (Some trace) (Some cert) text v report = check_violation trace cert text v report.of_all.of_all

pub violation_written : (traces certs old new : Option (List ℕ)) (outcome : Result Verdict Fault) → IfOk outcome (WritesWhole (IsCheckReportOfReaders traces certs) old new) →
    IfOk outcome (λ v. IfSome traces (λ trace. IfSome certs (λ cert. (v ≡ Violation) ↔ SpellHolding trace cert)))
violation_written traces certs old new (Ok v) writes = violation_of_readers traces certs writes.0 v writes.1
violation_written traces certs old new (Err fault) writes = tt

-- the verdict is Violation or Refused
pub check_verdict : (trace cert text : List ℕ) (v : Verdict) → IsCheckReport trace cert text v → (v ≡ Violation) ⊎ (v ≡ Refused)
check_verdict trace cert text v (inl p) = elim p.2.1 [ inl holds ↦ inl holds.2 | inr fails ↦ inr fails.1 ]
check_verdict trace cert text v (inr p) = inr p.4

pub verdict_written : (traces certs old new : Option (List ℕ)) (outcome : Result Verdict Fault) → IfOk outcome (WritesWhole (IsCheckReportOfReaders traces certs) old new) →
    IfOk outcome (λ v. (v ≡ Violation) ⊎ (v ≡ Refused))
verdict_written traces certs old new (Ok v) writes = let report = writes.1.of_read in check_verdict writes.1.bytes report.bytes writes.0 v report.of_read
verdict_written traces certs old new (Err fault) writes = tt

pub no_order_written : (traces : Option (List ℕ)) (outcome : Result Verdict Fault) → IfOk outcome (λ v. IfSome traces (λ all. (t : TraceValue) → SpellsTrace all t → v ≡ Violation → IsConsistent t → ⊥)) →
    IfOk outcome (λ v. v ≡ Violation → IfSome traces (λ all. (t : TraceValue) → SpellsTrace all t → IsConsistent t → ⊥))
no_order_written None (Ok v) says = λ e. tt
no_order_written (Some all) (Ok v) says = λ e t spells. says t spells e
no_order_written traces (Err fault) says = tt

-- a certificate that holds leaves no order
no_order_of_holding : (t : TraceValue) (cert : List ℕ) → IsTrace t → SpellsHolding t cert → IsConsistent t → ⊥
no_order_of_holding t cert trace holds = not_consistent t (own_values t trace) holds.0 holds.2

-- Violation says that there is no order
pub cert_no_order : (t : TraceValue) → IsTrace t → (cert text : List ℕ) (v : Verdict) → IsCertReport t cert text v → v ≡ Violation → IsConsistent t → ⊥
cert_no_order t trace cert text v report e = no_order_of_holding t cert trace ((cert_violation t cert text v report).0 e)

-- ---- one report

one_refused_report : (t : TraceValue) (cert a b : List ℕ) → IsFailureReport t cert a ⊎ IsUnreadReport cert a → IsFailureReport t cert b ⊎ IsUnreadReport cert b → a ≡ b
one_refused_report t cert a b (inl p) (inl q) =
    let same = one_value cert p.0 q.0 p.2 q.2 in
    p.4 ∙ ap fails_text (one_refusal t q.0 p.1 q.1 (subst (λ c. IsCertRefusal t c p.1) same p.3) q.3) ∙ sym q.4
one_refused_report t cert a b (inl p) (inr q) = absurd (cert_not_both cert p.0 q.0 q.1 p.2 q.2)
one_refused_report t cert a b (inr p) (inl q) = absurd (cert_not_both cert q.0 p.0 p.1 q.2 p.2)
one_refused_report t cert a b (inr p) (inr q) =
    let same = one_unread cert p.0 q.0 p.1 q.1 p.2 q.2 in p.3 ∙ ap (λ line. certificate_refusal_text line p.1) same.0 ∙ ap (certificate_refusal_text q.0) same.1 ∙ sym q.3

one_cert_report : (t : TraceValue) (cert a b : List ℕ) (v w : Verdict) → IsCertReport t cert a v → IsCertReport t cert b w → (a ≡ b) × (v ≡ w)
one_cert_report t cert a b v w (inl p) (inl q) = (p.1 ∙ sym q.1, p.2 ∙ sym q.2)
one_cert_report t cert a b v w (inl p) (inr q) = absurd (holding_not_refused t cert b p.0 q.0)
one_cert_report t cert a b v w (inr p) (inl q) = absurd (holding_not_refused t cert a q.0 p.0)
one_cert_report t cert a b v w (inr p) (inr q) = (one_refused_report t cert a b p.0 q.0, p.1 ∙ sym q.1)

pub one_check_report : (trace cert a b : List ℕ) (v w : Verdict) → IsCheckReport trace cert a v → IsCheckReport trace cert b w → (a ≡ b) × (v ≡ w)
one_check_report trace cert a b v w (inl p) (inl q) = one_cert_report q.0 cert a b v w (subst (λ t. IsCertReport t cert a v) (trace_laws.one_value trace p.0 q.0 p.1 q.1) p.2.1) q.2.1
one_check_report trace cert a b v w (inl p) (inr q) = absurd (trace_laws.not_both trace p.0 q.0 q.1 p.1 q.2)
one_check_report trace cert a b v w (inr p) (inl q) = absurd (trace_laws.not_both trace q.0 p.0 p.1 q.1 p.2)
one_check_report trace cert a b v w (inr p) (inr q) = one_of_refusal Refused rendered_refusal trace a b v w p q

-- ---- some report

some_cert_report : (t : TraceValue) (cert : List ℕ) → (text : List ℕ) × (v : Verdict) × IsCertReport t cert text v
some_cert_report t cert = elim (spelled_or_unread cert) [
  | inl spelled ↦ elim (holds_or_refused t spelled.0) [
    | inl holds ↦ (certificate_holds_text, Violation, inl ((spelled.0, spelled.1, holds), refl, refl))
    | inr refused ↦ (fails_text refused.0, Refused, inr (inl (spelled.0, refused.0, spelled.1, refused.1, refl), refl))
  ]
  | inr unread ↦ (certificate_refusal_text unread.0 unread.1, Refused, inr (inr (unread.0, unread.1, unread.2, refl), refl))
]

pub some_check_report : (trace cert : List ℕ) → length cert ≤ certificate_byte_limit → (text : List ℕ) × (v : Verdict) × IsCheckReport trace cert text v
some_check_report trace cert within = elim (trace_laws.either trace) [
  | inl spelled ↦ (let report = some_cert_report spelled.0 cert in (report.0, report.1, inl (spelled.0, spelled.1, (within, report.2))))
  | inr refused ↦ (refusal_text refused.0 refused.1, Refused, inr (refused.0, refused.1, refused.2, refl, refl))
]

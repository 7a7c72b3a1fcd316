-- Lemmas on texts that follow from what is found of a trace, or from the refusal of an input, and on the report as one of them.
use Rattle.std.proofs.Common.{◌≡◌, ◌⊎◌, ◌↔◌, ℕ, List, Some, None, refl, ap, sym, subst, ◌∙◌, inl, inr, ⊎_elim}
use Rattle.std.proofs.lemmas.Bool.{false≢true}
use Rattle.std.specs.Prelude.{Option, MatchOption}
use Rattle.std.specs.Option.{option_map_or}
use Rattle.tso_ops.specs.Limits.{IsTrace}
use Rattle.tso_ops.specs.Values.{TraceValue}
use Rattle.tso_ops.specs.Events.{IsUnwritten}
use Rattle.tso_ops.proofs.NumberFacts.{HasOwnValues, own_values}
use Rattle.tso_text.specs.Texts.{SpellsTrace}
use Rattle.tso_text.specs.declared.faults.Why.{Why}
use Rattle.tso_text.specs.Refusals.{IsRefusedTrace, IsTraceRefusal}
use Rattle.tso_text.proofs.TextLaws.{trace_laws}
use Rattle.tso_cert.specs.declared.steps.Certificate.{Certificate}
use Rattle.order_paths.proofs.Decisions.{Decision-either}
use Rattle.tso_model.specs.Axioms.{IsConsistent}
use Rattle.tso_model.specs.Certs.{IsCertificateOf}
use Rattle.tso_model.specs.Rules.{HasDerivedCycle}
use Rattle.tso_model.proofs.CertificateCause.{certificate_cause}
use Rattle.tso_model.proofs.CertificateExists.{certificate_exists}
use Rattle.tso_model.proofs.CertificateHolds.{certificate_holds}
use Rattle.tso_model.proofs.CertificateUnique.{certificate_unique}
use Rattle.tso_model.proofs.Decided.{unwritten_decided}
use Rattle.tso_model.proofs.DerivedPaths.{derived_cycle_decided}
use Rattle.tso_model.proofs.EdgesForward.{all_written, no_derived_cycle}
use Rattle.tso_model.proofs.RoundsNumber.{rounds_exist, rounds_unique}
use Rattle.trace_reports.specs.declared.findings.Finding.{Finding}
use Rattle.trace_reports.specs.declared.verdicts.Verdict.{Verdict}
use Rattle.trace_reports.specs.declared.verdicts.Verdict.TheVariants.{NoViolation, Violation, Refused}
use Rattle.trace_reports.specs.Findings.{IsFinding}
use Rattle.trace_reports.specs.Renderings.{IsTextOfInput, IsTextOfTrace, RendersRefusal}
use Rattle.trace_reports.specs.Reports.{reported, IsReport, IsTraceReport, ShowsNoViolationOf, ShowsViolationOf, SpellsViolation}
use Rattle.trace_reports.specs.Verdicts.{is_refused, is_violation}
use Rattle.trace_reports.specs.Violations.{IsViolation}

-- ---- what is found

-- the certificate is the trace's, or there is none
abbrev IsFoundOf : TraceValue → Option Certificate → Type 0
IsFoundOf t certificate = MatchOption certificate (IsViolation t → ⊥) (IsCertificateOf t)

one_certificate : (t : TraceValue) → HasOwnValues t → (a b : Option Certificate) → IsFoundOf t a → IsFoundOf t b → a ≡ b
one_certificate t own None None p q = refl
one_certificate t own None (Some d) p q = absurd (p (certificate_cause t d q))
one_certificate t own (Some c) None p q = absurd (q (certificate_cause t c p))
one_certificate t own (Some c) (Some d) p q = ap Some (certificate_unique t own c d p q)

abbrev finding_by : ℕ → Option Certificate → Finding
finding_by rounds certificate = record { rounds = rounds; certificate = certificate }

one_finding : (t : TraceValue) → HasOwnValues t → (f g : Finding) → IsFinding t f → IsFinding t g → f ≡ g
one_finding t own f g p q =
    ap (λ rounds. finding_by rounds f.certificate) (rounds_unique t f.rounds g.rounds p.rounds q.rounds) ∙ ap (finding_by g.rounds) (one_certificate t own f.certificate g.certificate p.certificate q.certificate)

some_finding : (t : TraceValue) → (f : Finding) × IsFinding t f
some_finding t =
    let rounds = rounds_exist t in
    elim (Decision-either (unwritten_decided t) (derived_cycle_decided t)) [
      | inl violation ↦ let found = certificate_exists t violation in (record { rounds = rounds.0; certificate = Some found.0 }, record { rounds = rounds.1; certificate = found.1 })
      | inr none ↦ (record { rounds = rounds.0; certificate = None }, record { rounds = rounds.1; certificate = none })
    ]

-- ---- verdicts

-- the verdict that a certificate stands for, or none
abbrev verdict_by : Option Certificate → Verdict
verdict_by c = option_map_or (λ _. Violation) c NoViolation

refused_no_violation : Refused ≡ Violation → ⊥
refused_no_violation e = false≢true (ap is_violation e)

pub none_no_violation : NoViolation ≡ Violation → ⊥
none_no_violation e = false≢true (ap is_violation e)

verdict_says : (t : TraceValue) (c : Option Certificate) → IsFoundOf t c → (verdict_by c ≡ Violation) ↔ IsViolation t
verdict_says t None none = (λ e. absurd (none_no_violation e), λ violation. absurd (none violation))
verdict_says t (Some c) found = (λ _. certificate_cause t c found, λ _. refl)

verdict_either : (c : Option Certificate) → (verdict_by c ≡ Violation) ⊎ (verdict_by c ≡ NoViolation)
verdict_either None = inr refl
verdict_either (Some c) = inl refl

never_refused : (c : Option Certificate) → verdict_by c ≡ Refused → ⊥
never_refused None e = false≢true (ap is_refused e)
never_refused (Some c) e = false≢true (ap is_refused e)

-- the certificate of a violation, and none of others
some_certificate : (c : Option Certificate) → verdict_by c ≡ Violation → (d : Certificate) × (c ≡ Some d)
some_certificate None e = absurd (none_no_violation e)
some_certificate (Some d) e = (d, refl)

no_certificate : (c : Option Certificate) → verdict_by c ≡ NoViolation → c ≡ None
no_certificate None e = refl
no_certificate (Some d) e = absurd (none_no_violation (sym e))

-- a violation leaves no order
pub violation_leaves_none : (t : TraceValue) → HasOwnValues t → IsViolation t → IsConsistent t → ⊥
violation_leaves_none t own violation consistent =
    ⊎_elim
    (λ (unwritten : (l : ℕ) × IsUnwritten t l). all_written t consistent.0 consistent.1 unwritten.0 unwritten.1)
    (λ (cycle : HasDerivedCycle t). no_derived_cycle t own consistent.0 consistent.1 cycle)
    violation

-- ---- what is said of a trace

module _ {said : TraceValue → Finding → List ℕ} where
  -- the verdict is Violation exactly where the trace is one
  pub trace_violation : (t : TraceValue) (text : List ℕ) (v : Verdict) → IsTextOfTrace said t text v → (v ≡ Violation) ↔ IsViolation t
  trace_violation t text v is = subst (λ w. (w ≡ Violation) ↔ IsViolation t) (sym is.says) (verdict_says t is.finding.certificate is.found.certificate)

  -- and else NoViolation
  pub trace_verdict : (t : TraceValue) (text : List ℕ) (v : Verdict) → IsTextOfTrace said t text v → (v ≡ Violation) ⊎ (v ≡ NoViolation)
  trace_verdict t text v is = subst (λ w. (w ≡ Violation) ⊎ (w ≡ NoViolation)) (sym is.says) (verdict_either is.finding.certificate)

  pub trace_no_order : (t : TraceValue) (text : List ℕ) (v : Verdict) → IsTrace t → IsTextOfTrace said t text v → v ≡ Violation → IsConsistent t → ⊥
  trace_no_order t text v kept is e consistent = violation_leaves_none t (own_values t kept) ((trace_violation t text v is).0 e) consistent

  -- on a consistent trace the verdict is NoViolation
  pub consistent_verdict : (t : TraceValue) (text : List ℕ) (v : Verdict) → IsTextOfTrace said t text v → (v ≡ Violation → IsConsistent t → ⊥) → IsConsistent t → v ≡ NoViolation
  consistent_verdict t text v is no_order consistent = ⊎_elim (λ violation. absurd (no_order violation consistent)) (λ none. none) (trace_verdict t text v is)

  one_of_trace : (t : TraceValue) → HasOwnValues t → (a b : List ℕ) (v w : Verdict) → IsTextOfTrace said t a v → IsTextOfTrace said t b w → (a ≡ b) × (v ≡ w)
  one_of_trace t own a b v w p q =
      let same = one_finding t own p.finding q.finding p.found q.found in
      (p.whole ∙ ap (said t) same ∙ sym q.whole, p.says ∙ ap (λ (f : Finding). verdict_by f.certificate) same ∙ sym q.says)

-- ---- what is said of an input

-- the input is refused, and the text is rendered of that
abbrev pub IsRenderedRefusal : {V : Type 0} → V → RendersRefusal → List ℕ → List ℕ → V → Type 0
IsRenderedRefusal refusing refused input text verdict = (line : ℕ) × (why : Why) × IsTraceRefusal input line why × (text ≡ refused input line why) × (verdict ≡ refusing)

pub one_of_refusal : {V : Type 0} (refusing : V) (refused : RendersRefusal) (input a b : List ℕ) (v w : V) → IsRenderedRefusal refusing refused input a v → IsRenderedRefusal refusing refused input b w → (a ≡ b) × (v ≡ w)
one_of_refusal refusing refused input a b v w p q =
    let same = trace_laws.one_refusal input p.0 q.0 p.1 q.1 p.2 q.2 in
    (p.3 ∙ ap (λ line. refused input line p.1) same.0 ∙ ap (refused input q.0) same.1 ∙ sym q.3, p.4 ∙ sym q.4)

-- the verdict is the same, whatever is said
pub same_verdict : (said told : TraceValue → Finding → List ℕ) (refused missed : RendersRefusal) (input a b : List ℕ) (v w : Verdict) → IsTextOfInput said refused input a v → IsTextOfInput told missed input b w → v ≡ w
same_verdict said told refused missed input a b v w (inl p) (inl q) =
    let t = trace_laws.one_value input p.0 q.0 p.1 q.1 in
    let first = subst (λ t. IsTextOfTrace said t a v) t p.2 in
    let same = one_finding q.0 (own_values q.0 q.1.0) first.finding q.2.finding first.found q.2.found in
    first.says ∙ ap (λ (f : Finding). verdict_by f.certificate) same ∙ sym q.2.says
same_verdict said told refused missed input a b v w (inl p) (inr q) = absurd (trace_laws.not_both input p.0 q.0 q.1 p.1 q.2)
same_verdict said told refused missed input a b v w (inr p) (inl q) = absurd (trace_laws.not_both input q.0 p.0 p.1 q.1 p.2)
same_verdict said told refused missed input a b v w (inr p) (inr q) = p.4 ∙ sym q.4

module _ (said : TraceValue → Finding → List ℕ) (refused : RendersRefusal) where
  pub one_text : (input a b : List ℕ) (v w : Verdict) → IsTextOfInput said refused input a v → IsTextOfInput said refused input b w → (a ≡ b) × (v ≡ w)
  one_text input a b v w (inl p) (inl q) = one_of_trace q.0 (own_values q.0 q.1.0) a b v w (subst (λ t. IsTextOfTrace said t a v) (trace_laws.one_value input p.0 q.0 p.1 q.1) p.2) q.2
  one_text input a b v w (inl p) (inr q) = absurd (trace_laws.not_both input p.0 q.0 q.1 p.1 q.2)
  one_text input a b v w (inr p) (inl q) = absurd (trace_laws.not_both input q.0 p.0 p.1 q.1 p.2)
  one_text input a b v w (inr p) (inr q) = one_of_refusal Refused refused input a b v w p q

  pub some_text : (input : List ℕ) → (text : List ℕ) × (v : Verdict) × IsTextOfInput said refused input text v
  some_text input = elim (trace_laws.either input) [
    | inl s ↦ let f = some_finding s.0 in (said s.0 f.0, verdict_by f.0.certificate, inl (s.0, s.1, record { finding = f.0; found = f.1; says = refl; whole = refl }))
    | inr r ↦ (refused input r.0 r.1, Refused, inr (r.0, r.1, r.2, refl, refl))
  ]

  -- VIOLATION stands there exactly where the input spells a violation
  pub violation_exactly : (input text : List ℕ) (v : Verdict) → IsTextOfInput said refused input text v → (v ≡ Violation) ↔ SpellsViolation input
  violation_exactly input text v (inl p) =
      let says = trace_violation p.0 text v p.2 in
      (λ e. (p.0, p.1, says.0 e), λ s. says.1 (subst IsViolation (trace_laws.one_value input s.0 p.0 s.1 p.1) s.2))
  violation_exactly input text v (inr p) = (λ e. absurd (refused_no_violation (sym p.4 ∙ e)), λ s. absurd (trace_laws.not_both input s.0 p.0 p.1 s.1 p.2))

  -- and the verdict is Refused exactly where it spells no trace
  pub refused_exactly : (input text : List ℕ) (v : Verdict) → IsTextOfInput said refused input text v → (v ≡ Refused) ↔ IsRefusedTrace input
  refused_exactly input text v (inl p) = (λ e. absurd (never_refused p.2.finding.certificate (sym p.2.says ∙ e)), λ r. absurd (trace_laws.not_both input p.0 r.0 r.1 p.1 r.2))
  refused_exactly input text v (inr p) = (λ _. (p.0, p.1, p.2), λ _. p.4)

  -- a violation leaves no order
  pub no_order : (input text : List ℕ) (v : Verdict) → IsTextOfInput said refused input text v → v ≡ Violation → (t : TraceValue) → SpellsTrace input t → IsConsistent t → ⊥
  no_order input text v is e t spells consistent =
      let spelled = (violation_exactly input text v is).0 e in
      violation_leaves_none t (own_values t spells.0) (subst IsViolation (trace_laws.one_value input spelled.0 t spelled.1 spells) spelled.2) consistent

-- ---- reports

-- after the line VIOLATION of a report stands the text of a certificate that holds, and nothing else
pub shows_violation_of : (t : TraceValue) (text : List ℕ) (v : Verdict) → IsTraceReport t text v → v ≡ Violation → ShowsViolationOf t text
shows_violation_of t text v report e =
    let some = some_certificate report.finding.certificate (sym report.says ∙ e) in
    let holds = certificate_holds t some.0 (subst (IsFoundOf t) some.1 report.found.certificate) in
    (report.finding.rounds, some.0, holds, report.whole ∙ ap (λ c. reported t (finding_by report.finding.rounds c)) some.1)

-- the last line of a report without a violation is NO VIOLATION FOUND
pub shows_no_violation_of : (t : TraceValue) (text : List ℕ) (v : Verdict) → IsTraceReport t text v → v ≡ NoViolation → ShowsNoViolationOf t text
shows_no_violation_of t text v report e =
    (report.finding.rounds, report.whole ∙ ap (λ c. reported t (finding_by report.finding.rounds c)) (no_certificate report.finding.certificate (sym report.says ∙ e)))

pub shows_violation : (input text : List ℕ) (v : Verdict) → IsReport input text v → v ≡ Violation → (t : TraceValue) × SpellsTrace input t × ShowsViolationOf t text
shows_violation input text v (inl p) e = (p.0, p.1, shows_violation_of p.0 text v p.2 e)
shows_violation input text v (inr p) e = absurd (refused_no_violation (sym p.4 ∙ e))

-- Lemmas on what is said of trace texts: one thing of each, which is what its report says, and the same of its first bytes.
use Rattle.std.proofs.Common.{◌≡◌, ◌∙◌, ◌↔◌, ◌⊎◌, ℕ, ◌<◌, ◌≤◌, Bool, true, false, Option, None, List, length, take, map, [], ◌∷◌, Some, refl, ap, ap₂, sym, subst, inl, inr, arith, ⊎_elim}
use Rattle.std.specs.Option.{option_map_or}
use Rattle.std.proofs.lemmas.Bool.{cases_lt, false≢true}
use Rattle.std.proofs.lemmas.List.{take_all}
use Rattle.tso_ops.specs.Values.{TraceValue}
use Rattle.tso_cert.specs.declared.steps.Certificate.{Certificate}
use Rattle.tso_cert.specs.declared.steps.Certificate.TheVariants.{Unwritten, Cycle}
use Rattle.tso_evidence.specs.declared.evidence.Evidence.TheVariants as evidence
use Rattle.tso_evidence.specs.declared.evidence.Evidence.TheVariants.{Order, Refutation}
use Rattle.tso_evidence.specs.Certificates.{evidence_of}
use Rattle.tso_text.specs.declared.faults.TextFault.{TextFault}
use Rattle.tso_text.specs.declared.faults.Why.{Why}
use Rattle.tso_text.specs.declared.faults.Why.TheVariants.{TooLong}
use Rattle.tso_text.specs.Refusals.{IsTraceRefusal}
use Rattle.tso_text.specs.Texts.{SpellsTrace, text_byte_limit}
use Rattle.trace_streams.specs.Limits.{trace_read_limit}
use Rattle.tso_text.proofs.TextLaws.{trace_laws}
use Rattle.tso_model.specs.Axioms.{IsConsistent}
use Rattle.tso_model.specs.Certs.{Holds, IsCertificateOf}
use Rattle.tso_model.proofs.CertificateExists.{certificate_exists}
use Rattle.tso_model.proofs.CertificateHolds.{certificate_holds}
use Rattle.refutation_check.proofs.CertificateFacts.{certificate_holds_as}
use Rattle.trace_reports.specs.declared.findings.Finding.{Finding}
use Rattle.trace_reports.specs.declared.verdicts.Verdict.{Verdict}
use Rattle.trace_reports.specs.declared.verdicts.Verdict.TheVariants as verdict
use Rattle.trace_reports.specs.Findings.{IsFinding}
use Rattle.trace_reports.specs.Renderings.{IsTextOfInput, IsTextOfTrace}
use Rattle.trace_reports.specs.RefusalLines.{refusal_text}
use Rattle.trace_reports.specs.Reports.{IsReport, rendered_refusal, reported}
use Rattle.trace_reports.specs.Violations.{IsViolation}
use Rattle.trace_reports.proofs.RenderingFacts.{one_text, refused_exactly, some_text, trace_no_order, trace_verdict, trace_violation, violation_exactly}
use Rattle.trace_streams.proofs.InputFacts.{refusal_of_prefix, spells_of_prefix}
use Rattle.trace_reports.specs.declared.answers.Answer.TheVariants as answer
use Rattle.trace_decisions.specs.declared.decisions.Decision.{Decision}
use Rattle.trace_decisions.specs.declared.decisions.Decision.TheVariants.{Decided}
use Rattle.trace_decisions.specs.declared.decisions.Decision.TheVariants as decided
use Rattle.trace_decisions.specs.Decisions.{IsDecision}
use Rattle.trace_decisions.specs.DecisionTexts.{answer_of, AnswerSays, IsDecisionText}
use Rattle.trace_explanation.specs.Explained.{explained, refusal_explained}
use Rattle.decision_explanation.specs.Explained.{decision_explained}
use Rattle.request_options.specs.declared.batches.BatchMethod.{BatchMethod}
use Rattle.request_options.specs.declared.batches.BatchMethod.TheVariants.{Judge, Decide}
use Rattle.trace_batches.specs.declared.judgments.Judgment.{Judgment}
use Rattle.trace_batches.specs.declared.judgments.Judgment.TheVariants.{NoViolation, Violation, Consistent, Undecided, Refused}
use Rattle.trace_batches.specs.declared.questions.BatchQuestion.{BatchQuestion}
use Rattle.trace_batches.specs.Internal.Decided.{judgment_of}
use Rattle.trace_batches.specs.Judgments.{AreJudgments, asking, body_of, ExplainsViolation, IsBody, IsJudgment, IsJudgmentOn, judgment_verdict, plain, says_undecided}

-- ---- what explains a violation

-- a text that explains it stands there where it is asked for
is_body : (method : BatchMethod) (explains : Bool) (t : TraceValue) (text : List ℕ) → ExplainsViolation method t text → IsBody (asking method explains) t (body_of explains text)
is_body method true t text is = (refl, is)
is_body method false t text is = refl

-- by the rules there is one
one_body : (piece : List ℕ) (explains : Bool) (t u : TraceValue) (body other : Option (List ℕ)) → SpellsTrace piece t → SpellsTrace piece u →
    IsBody (asking Judge explains) t body → IsBody (asking Judge explains) u other → body ≡ other
one_body piece explains t u None None first second is says = refl
one_body piece explains t u None (Some text) first second is says = absurd (false≢true (sym is ∙ says.0))
one_body piece explains t u (Some text) None first second is says = absurd (false≢true (sym says ∙ is.0))
one_body piece explains t u (Some text) (Some other) first second is says =
    ap Some (one_text explained refusal_explained piece text other verdict.Violation verdict.Violation (inl (t, first, is.1)) (inl (u, second, says.1))).0

-- and where it isn't asked for there is none
no_body : (method : BatchMethod) (t : TraceValue) (body : Option (List ℕ)) → IsBody (asking method false) t body → body ≡ None
no_body method t None is = refl
no_body method t (Some text) is = absurd (false≢true is.0)

-- a certificate that holds, as the evidence of a decision
decided_by : (t : TraceValue) (effort : ℕ) (c : Certificate) → Holds t c →
    IsDecisionText decision_explained effort t (decision_explained t (Decided (evidence_of c))) answer.Violation
decided_by t effort (Unwritten n) holds = record { finding = Decided (evidence_of (Unwritten n)); found = holds; whole = refl; says = refl }
decided_by t effort (Cycle steps numbers) holds =
    record { finding = Decided (evidence_of (Cycle steps numbers)); found = (certificate_holds_as t steps numbers).0 holds; whole = refl; says = refl }

-- ---- what is found of a trace, or decided

pub found_some : (t : TraceValue) (f : Finding) (explains : Bool) (certificate : Certificate) (body : Option (List ℕ)) → IsFinding t f → f.certificate ≡ Some certificate →
    body ≡ body_of explains (explained t f) → IsJudgmentOn (asking Judge explains) t (Violation body)
found_some t f explains certificate body found is said =
    let says = sym (ap (λ c. option_map_or (λ _. verdict.Violation) c verdict.NoViolation) is) in
    let text : IsTextOfTrace explained t (explained t f) verdict.Violation = record { finding = f; found = found; says = says; whole = refl } in (
      (trace_violation t (explained t f) verdict.Violation text).0 refl,
      subst (IsBody (asking Judge explains) t) (sym said) (is_body Judge explains t (explained t f) text),
    )

decided_violation : (t : TraceValue) (d : Decision) (effort : ℕ) (explains : Bool) → IsDecision effort t d → (IsConsistent t → ⊥) → answer.Violation ≡ answer_of d →
    IsJudgmentOn (asking (Decide effort) explains) t (Violation (body_of explains (decision_explained t d)))
decided_violation t d effort explains is none says =
    let text : IsDecisionText decision_explained effort t (decision_explained t d) answer.Violation = record { finding = d; found = is; whole = refl; says = says } in
    (none, is_body (Decide effort) explains t (decision_explained t d) text)

pub decision_said : (t : TraceValue) (d : Decision) (effort : ℕ) (explains : Bool) → IsDecision effort t d → AnswerSays t (answer_of d) → IsJudgmentOn (asking (Decide effort) explains) t (judgment_of explains t d)
decision_said t (Decided (Order order)) effort explains is tells = tells
decision_said t (Decided (evidence.Unwritten n)) effort explains is tells = decided_violation t (Decided (evidence.Unwritten n)) effort explains is tells refl
decision_said t (Decided (Refutation lines)) effort explains is tells = decided_violation t (Decided (Refutation lines)) effort explains is tells refl
decision_said t (decided.Undecided steps) effort explains is tells = is

-- ---- one judgment of a trace text

-- what is said of the trace that a trace text spells is said of the trace text
pub said_of_trace_text : (question : BatchQuestion) (piece : List ℕ) (t : TraceValue) (judgment : Judgment) → SpellsTrace piece t → IsJudgmentOn question t judgment → IsJudgment question piece judgment
said_of_trace_text question piece t NoViolation spells said = (t, spells, said)
said_of_trace_text question piece t (Violation body) spells said = (t, spells, said)
said_of_trace_text question piece t Consistent spells said = (t, spells, said)
said_of_trace_text question piece t (Undecided steps) spells said = (t, spells, said)
said_of_trace_text question piece t (Refused fault) spells said = absurd said

module _ {said : TraceValue → Finding → List ℕ} where
  -- a trace of which a text says so is no violation
  not_violation : (t : TraceValue) (text : List ℕ) (v : Verdict) → IsTextOfTrace said t text v → v ≡ verdict.NoViolation → IsViolation t → ⊥
  not_violation t text v is e violation = other (sym e ∙ (trace_violation t text v is).1 violation)
    where
      other : verdict.NoViolation ≡ verdict.Violation → ⊥
      other same = absurd cc

some_by_rules : (explains : Bool) (piece : List ℕ) → (judgment : Judgment) × IsJudgment (asking Judge explains) piece judgment
some_by_rules explains piece = by (some_text explained refusal_explained piece)
  where
    of_trace : (t : TraceValue) (text : List ℕ) (v : Verdict) → SpellsTrace piece t → IsTextOfTrace explained t text v → (v ≡ verdict.Violation) ⊎ (v ≡ verdict.NoViolation) →
        (judgment : Judgment) × IsJudgment (asking Judge explains) piece judgment
    of_trace t text v spells is (inl e) =
        (Violation (body_of explains text), (t, spells, ((trace_violation t text v is).0 e, is_body Judge explains t text (subst (λ w. IsTextOfTrace explained t text w) e is))))
    of_trace t text v spells is (inr e) = (NoViolation, (t, spells, not_violation t text v is e))

    of_input : (text : List ℕ) (v : Verdict) → IsTextOfInput explained refusal_explained piece text v → (judgment : Judgment) × IsJudgment (asking Judge explains) piece judgment
    of_input text v (inl p) = of_trace p.0 text v p.1 p.2 (trace_verdict p.0 text v p.2)
    of_input text v (inr p) = (Refused (record { line = p.0; why = p.1 }), p.2)

    by : (text : List ℕ) × (v : Verdict) × IsTextOfInput explained refusal_explained piece text v → (judgment : Judgment) × IsJudgment (asking Judge explains) piece judgment
    by report = of_input report.0 report.1 report.2

-- a trace that is no violation may stay undecided
some_by_decision : (effort : ℕ) (explains : Bool) (piece : List ℕ) → (judgment : Judgment) × IsJudgment (asking (Decide effort) explains) piece judgment
some_by_decision effort explains piece = by (some_text reported rendered_refusal piece)
  where
    of_violation : (t : TraceValue) → SpellsTrace piece t → (IsConsistent t → ⊥) → (c : Certificate) × IsCertificateOf t c → (judgment : Judgment) × IsJudgment (asking (Decide effort) explains) piece judgment
    of_violation t spells none found =
        let text = decision_explained t (Decided (evidence_of found.0)) in
        (Violation (body_of explains text), (t, spells, (none, is_body (Decide effort) explains t text (decided_by t effort found.0 (certificate_holds t found.0 found.1)))))

    of_trace : (t : TraceValue) (text : List ℕ) (v : Verdict) → SpellsTrace piece t → IsTextOfTrace reported t text v → (v ≡ verdict.Violation) ⊎ (v ≡ verdict.NoViolation) →
        (judgment : Judgment) × IsJudgment (asking (Decide effort) explains) piece judgment
    of_trace t text v spells is (inl e) = of_violation t spells (trace_no_order t text v spells.0 is e) (certificate_exists t ((trace_violation t text v is).0 e))
    of_trace t text v spells is (inr e) = (Undecided effort, (t, spells, (refl, not_violation t text v is e)))

    of_input : (text : List ℕ) (v : Verdict) → IsReport piece text v → (judgment : Judgment) × IsJudgment (asking (Decide effort) explains) piece judgment
    of_input text v (inl p) = of_trace p.0 text v p.1 p.2 (trace_verdict p.0 text v p.2)
    of_input text v (inr p) = (Refused (record { line = p.0; why = p.1 }), p.2)

    by : (text : List ℕ) × (v : Verdict) × IsReport piece text v → (judgment : Judgment) × IsJudgment (asking (Decide effort) explains) piece judgment
    by report = of_input report.0 report.1 report.2

pub some_judgment : (question : BatchQuestion) (piece : List ℕ) → (judgment : Judgment) × IsJudgment question piece judgment
some_judgment question piece = by question.method refl
  where
    by : (method : BatchMethod) → question.method ≡ method → (judgment : Judgment) × IsJudgment question piece judgment
    by Judge is = (let some = some_by_rules question.explains piece in (some.0, subst (λ m. IsJudgment (asking m question.explains) piece some.0) (sym is) some.1))
    by (Decide effort) is = (let some = some_by_decision effort question.explains piece in (some.0, subst (λ m. IsJudgment (asking m question.explains) piece some.0) (sym is) some.1))

same_fault : (f g : TextFault) → f.line ≡ g.line → f.why ≡ g.why → Refused f ≡ Refused g
same_fault f g line why =
    let fault : ℕ → Why → TextFault = λ l w. record { line = l; why = w } in
    ap Refused (ap₂ fault line why)

one_refused : (piece : List ℕ) (f g : TextFault) → IsTraceRefusal piece f.line f.why → IsTraceRefusal piece g.line g.why → Refused f ≡ Refused g
one_refused piece f g first second =
    let same = trace_laws.one_refusal piece f.line g.line f.why g.why first second in
    same_fault f g same.0 same.1

-- a trace text that spells a trace isn't refused
spelled_not_refused : (X : Type 0) (piece : List ℕ) (t : TraceValue) (f : TextFault) → SpellsTrace piece t → IsTraceRefusal piece f.line f.why → X
spelled_not_refused X piece t f spells refused = absurd (trace_laws.not_both piece t f.line f.why spells refused)

pub one_judgment : (explains : Bool) (piece : List ℕ) (judgment other : Judgment) → IsJudgment (asking Judge explains) piece judgment → IsJudgment (asking Judge explains) piece other → judgment ≡ other
one_judgment explains piece Consistent other first second = absurd first.2
one_judgment explains piece (Undecided steps) other first second = absurd first.2
one_judgment explains piece NoViolation Consistent first second = absurd second.2
one_judgment explains piece NoViolation (Undecided steps) first second = absurd second.2
one_judgment explains piece NoViolation NoViolation first second = refl
one_judgment explains piece NoViolation (Violation body) first second = absurd (first.2 (subst IsViolation (trace_laws.one_value piece second.0 first.0 second.1 first.1) second.2.0))
one_judgment explains piece NoViolation (Refused f) first second = spelled_not_refused (NoViolation ≡ Refused f) piece first.0 f first.1 second
one_judgment explains piece (Violation body) Consistent first second = absurd second.2
one_judgment explains piece (Violation body) (Undecided steps) first second = absurd second.2
one_judgment explains piece (Violation body) NoViolation first second = absurd (second.2 (subst IsViolation (trace_laws.one_value piece first.0 second.0 first.1 second.1) first.2.0))
one_judgment explains piece (Violation body) (Violation other) first second = ap Violation (one_body piece explains first.0 second.0 body other first.1 second.1 first.2.1 second.2.1)
one_judgment explains piece (Violation body) (Refused f) first second = spelled_not_refused (Violation body ≡ Refused f) piece first.0 f first.1 second
one_judgment explains piece (Refused f) Consistent first second = absurd second.2
one_judgment explains piece (Refused f) (Undecided steps) first second = absurd second.2
one_judgment explains piece (Refused f) NoViolation first second = spelled_not_refused (Refused f ≡ NoViolation) piece second.0 f second.1 first
one_judgment explains piece (Refused f) (Violation body) first second = spelled_not_refused (Refused f ≡ Violation body) piece second.0 f second.1 first
one_judgment explains piece (Refused f) (Refused g) first second = one_refused piece f g first second

-- both say that it is undecided, or the same but for what explains a violation
abbrev pub AreAlike : Judgment → Judgment → Type 0
AreAlike judgment other = (says_undecided judgment ≡ true) ⊎ (says_undecided other ≡ true) ⊎ (plain judgment ≡ plain other)

pub alike_decisions : (effort : ℕ) (explains : Bool) (piece : List ℕ) (judgment other : Judgment) → IsJudgment (asking (Decide effort) explains) piece judgment → IsJudgment (asking (Decide effort) explains) piece other →
    AreAlike judgment other
alike_decisions effort explains piece (Undecided steps) other first second = inl refl
alike_decisions effort explains piece judgment (Undecided steps) first second = inr (inl refl)
alike_decisions effort explains piece NoViolation other first second = absurd first.2
alike_decisions effort explains piece Consistent NoViolation first second = absurd second.2
alike_decisions effort explains piece (Violation body) NoViolation first second = absurd second.2
alike_decisions effort explains piece (Refused f) NoViolation first second = absurd second.2
alike_decisions effort explains piece Consistent Consistent first second = inr (inr refl)
alike_decisions effort explains piece Consistent (Violation body) first second = absurd (second.2.0 (subst IsConsistent (trace_laws.one_value piece first.0 second.0 first.1 second.1) first.2))
alike_decisions effort explains piece Consistent (Refused f) first second = spelled_not_refused (AreAlike Consistent (Refused f)) piece first.0 f first.1 second
alike_decisions effort explains piece (Violation body) Consistent first second = absurd (first.2.0 (subst IsConsistent (trace_laws.one_value piece second.0 first.0 second.1 first.1) second.2))
alike_decisions effort explains piece (Violation body) (Violation other) first second = inr (inr refl)
alike_decisions effort explains piece (Violation body) (Refused f) first second = spelled_not_refused (AreAlike (Violation body) (Refused f)) piece first.0 f first.1 second
alike_decisions effort explains piece (Refused f) Consistent first second = spelled_not_refused (AreAlike (Refused f) Consistent) piece second.0 f second.1 first
alike_decisions effort explains piece (Refused f) (Violation body) first second = spelled_not_refused (AreAlike (Refused f) (Violation body)) piece second.0 f second.1 first
alike_decisions effort explains piece (Refused f) (Refused g) first second = inr (inr (one_refused piece f g first second))

-- what is said without what explains a violation, where that isn't asked for
plain_said : (effort : ℕ) (piece : List ℕ) (judgment : Judgment) → IsJudgment (asking (Decide effort) false) piece judgment → judgment ≡ plain judgment
plain_said effort piece (Violation body) is = ap Violation (no_body (Decide effort) is.0 body is.2.1)
plain_said effort piece NoViolation is = refl
plain_said effort piece Consistent is = refl
plain_said effort piece (Undecided steps) is = refl
plain_said effort piece (Refused f) is = refl

pub one_decision : (effort : ℕ) (piece : List ℕ) (judgment other : Judgment) → IsJudgment (asking (Decide effort) false) piece judgment → IsJudgment (asking (Decide effort) false) piece other →
    (says_undecided judgment ≡ true) ⊎ (says_undecided other ≡ true) ⊎ (judgment ≡ other)
one_decision effort piece judgment other first second = by (alike_decisions effort false piece judgment other first second)
  where
    by : AreAlike judgment other → (says_undecided judgment ≡ true) ⊎ (says_undecided other ≡ true) ⊎ (judgment ≡ other)
    by (inl undecided) = inl undecided
    by (inr (inl undecided)) = inr (inl undecided)
    by (inr (inr same)) = inr (inr (plain_said effort piece judgment first ∙ same ∙ sym (plain_said effort piece other second)))

-- ---- what the report says

pub verdict_said : (explains : Bool) (piece text : List ℕ) (v : Verdict) (judgment : Judgment) → IsReport piece text v → IsJudgment (asking Judge explains) piece judgment → v ≡ judgment_verdict judgment
verdict_said explains piece text v (Violation body) report is = (violation_exactly reported rendered_refusal piece text v report).1 (is.0, is.1, is.2.0)
verdict_said explains piece text v (Refused f) report is = (refused_exactly reported rendered_refusal piece text v report).1 (f.line, f.why, is)
verdict_said explains piece text v Consistent report is = absurd is.2
verdict_said explains piece text v (Undecided steps) report is = absurd is.2
verdict_said explains piece text v NoViolation (inl p) is =
    ⊎_elim
    (λ (e : v ≡ verdict.Violation). absurd (is.2 (subst IsViolation (trace_laws.one_value piece p.0 is.0 p.1 is.1) ((trace_violation p.0 text v p.2).0 e))))
    (λ (e : v ≡ verdict.NoViolation). e)
    (trace_verdict p.0 text v p.2)
verdict_said explains piece text v NoViolation (inr p) is = absurd (trace_laws.not_both piece is.0 p.0 p.1 is.1 p.2)

pub refusal_said : (piece text : List ℕ) (v : Verdict) (f : TextFault) → IsReport piece text v → IsTraceRefusal piece f.line f.why → text ≡ refusal_text f.line f.why
refusal_said piece text v f (inl p) is = absurd (trace_laws.not_both piece p.0 f.line f.why p.1 is)
refusal_said piece text v f (inr p) is =
    let same = trace_laws.one_refusal piece p.0 f.line p.1 f.why p.2 is in
    p.3 ∙ ap (λ line. refusal_text line p.1) same.0 ∙ ap (refusal_text f.line) same.1

-- ---- the first bytes of a trace text

-- all of a trace text that spells a trace is kept
kept_spelled : (piece : List ℕ) (t : TraceValue) → SpellsTrace piece t → take trace_read_limit piece ≡ piece
kept_spelled piece t spells =
    ⊎_elim
    (λ (past : text_byte_limit < length piece). absurd (trace_laws.not_both piece t 0 TooLong spells (trace_laws.too_long piece past)))
    (λ (fits : length piece ≤ text_byte_limit). take_all trace_read_limit piece (omega arith))
    (cases_lt text_byte_limit (length piece))

pub judgment_of_prefix : (question : BatchQuestion) (piece : List ℕ) (judgment : Judgment) → IsJudgment question (take trace_read_limit piece) judgment → IsJudgment question piece judgment
judgment_of_prefix question piece NoViolation is = (is.0, spells_of_prefix piece is.0 is.1, is.2)
judgment_of_prefix question piece (Violation body) is = (is.0, spells_of_prefix piece is.0 is.1, is.2)
judgment_of_prefix question piece Consistent is = (is.0, spells_of_prefix piece is.0 is.1, is.2)
judgment_of_prefix question piece (Undecided steps) is = (is.0, spells_of_prefix piece is.0 is.1, is.2)
judgment_of_prefix question piece (Refused f) is = refusal_of_prefix piece f.line f.why is

-- the same of a trace text that spells a trace, of which all is kept
of_spelled : (piece : List ℕ) (Is : List ℕ → Type 0) (t : TraceValue) → SpellsTrace piece t → Is piece → Is (take trace_read_limit piece)
of_spelled piece Is t spells is = subst Is (sym (kept_spelled piece t spells)) is

prefix_of_judgment : (question : BatchQuestion) (piece : List ℕ) (judgment : Judgment) → IsJudgment question piece judgment → IsJudgment question (take trace_read_limit piece) judgment
prefix_of_judgment question piece NoViolation is = of_spelled piece (λ bytes. IsJudgment question bytes NoViolation) is.0 is.1 is
prefix_of_judgment question piece (Violation body) is = of_spelled piece (λ bytes. IsJudgment question bytes (Violation body)) is.0 is.1 is
prefix_of_judgment question piece Consistent is = of_spelled piece (λ bytes. IsJudgment question bytes Consistent) is.0 is.1 is
prefix_of_judgment question piece (Undecided steps) is = of_spelled piece (λ bytes. IsJudgment question bytes (Undecided steps)) is.0 is.1 is
prefix_of_judgment question piece (Refused f) is =
    let kept = some_by_rules false (take trace_read_limit piece) in
    let same : kept.0 ≡ Refused f = one_judgment false piece kept.0 (Refused f) (judgment_of_prefix (asking Judge false) piece kept.0 kept.1) is in
    subst (IsJudgment (asking Judge false) (take trace_read_limit piece)) same kept.1

-- and of the trace text the same is said as of them
pub same_judgments : (question : BatchQuestion) (piece : List ℕ) (judgment : Judgment) → IsJudgment question (take trace_read_limit piece) judgment ↔ IsJudgment question piece judgment
same_judgments question piece judgment = (judgment_of_prefix question piece judgment, prefix_of_judgment question piece judgment)

-- all of a violation is kept
pub kept_violation : (question : BatchQuestion) (piece : List ℕ) (body : Option (List ℕ)) → IsJudgment question piece (Violation body) → take trace_read_limit piece ≡ piece
kept_violation question piece body is = kept_spelled piece is.0 is.1

-- ---- judgments of many trace texts

-- the first bytes of trace texts
abbrev pub firsts : List (List ℕ) → List (List ℕ)
firsts pieces = map (λ piece. take trace_read_limit piece) pieces

pub judgments_of_firsts : (question : BatchQuestion) (pieces : List (List ℕ)) (judgments : List Judgment) → AreJudgments question (firsts pieces) judgments → AreJudgments question pieces judgments
judgments_of_firsts question [] [] are = tt
judgments_of_firsts question (p ∷ ps) (j ∷ js) are = (judgment_of_prefix question p j are.0, judgments_of_firsts question ps js are.1)
judgments_of_firsts question pieces judgments are = absurd are

pub some_judgments : (question : BatchQuestion) (pieces : List (List ℕ)) → (judgments : List Judgment) × AreJudgments question pieces judgments
some_judgments question [] = ([], tt)
some_judgments question (p ∷ ps) =
    let one = some_judgment question p in
    let more = some_judgments question ps in
    (one.0 ∷ more.0, (one.1, more.1))

pub one_list_of_judgments : (explains : Bool) (pieces : List (List ℕ)) (js ks : List Judgment) → AreJudgments (asking Judge explains) pieces js → AreJudgments (asking Judge explains) pieces ks → js ≡ ks
one_list_of_judgments explains [] [] [] first second = refl
one_list_of_judgments explains (p ∷ ps) (j ∷ js) (k ∷ ks) first second = ap₂ (λ x xs. x ∷ xs) (one_judgment explains p j k first.0 second.0) (one_list_of_judgments explains ps js ks first.1 second.1)
one_list_of_judgments explains [] js (k ∷ ks) first second = absurd second
one_list_of_judgments explains (p ∷ ps) js [] first second = absurd second
one_list_of_judgments explains pieces js ks first second = absurd first

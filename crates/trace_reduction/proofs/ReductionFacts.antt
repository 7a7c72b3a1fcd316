-- What is reduced to a small trace that shows a violation has no order of its model.
use Rattle.std.proofs.Common.{◌≡◌, ◌↔◌, ℕ, true, List, Some, None, Ok, Err, IfSome, string_bytes, inl, inr, refl, sym, ◌∙◌, subst, take, ⊎_elim}
use Rattle.std.specs.Prelude.{IfOk, Option, Result, is_some}
use Rattle.tso_ops.specs.Values.{TraceValue}
use Rattle.tso_ops.specs.Limits.{IsTrace}
use Rattle.tso_ops.specs.Events.{IsUnwritten}
use Rattle.tso_text.specs.Printed.{trace_text}
use Rattle.tso_text.specs.Texts.{SpellsTrace}
use Rattle.trace_streams.specs.Limits.{trace_read_limit}
use Rattle.tso_text.proofs.TextLaws.{trace_laws}
use Rattle.tso_cert.specs.declared.steps.CertStep.{CertStep}
use Rattle.tso_cert.specs.declared.steps.Certificate.{Certificate}
use Rattle.tso_cert.specs.declared.steps.Certificate.TheVariants.{Cycle}
use Rattle.tso_model.specs.Axioms.{IsConsistent}
use Rattle.tso_model.specs.Certs.{IsCertificateOf}
use Rattle.tso_model.proofs.CertificateCause.{certificate_cause}
use Rattle.tso_model.proofs.EdgesForward.{all_written}
use Rattle.trace_reports.specs.declared.findings.Finding.{Finding}
use Rattle.trace_reports.specs.declared.verdicts.Verdict.{Verdict}
use Rattle.trace_reports.specs.declared.verdicts.Verdict.TheVariants.{NoViolation, Violation, Refused}
use Rattle.trace_reports.specs.Findings.{IsFinding}
use Rattle.trace_reports.specs.Reports.{SpellsViolation}
use Rattle.trace_reports.specs.Violations.{IsViolation}
use Rattle.trace_judging.proofs.ViolationFacts.{certified, violation_no_order}
use Rattle.text_streams.proofs.ReadingFacts.{reads_as}
use Rattle.trace_streams.proofs.InputFacts.{refusal_of_prefix, spells_of_prefix}
use Rattle.log_selections.specs.Selections.{IsSelectionBy}
use Rattle.log_selections.proofs.SelectionOrders.{selection_violation}
use Rattle.trace_reduction.specs.declared.reductions.Reduction.{Reduction}
use Rattle.trace_reduction.specs.Reductions.{IsReducedText, IsReduction, IsReductionOf, IsReductionOfReader}
use Rattle.log_selections.specs.Unwritten.{lone_load}
use Rattle.log_selections.proofs.LoneLoads.{lone_is_trace, lone_unwritten}
use Rattle.trace_reduction.proofs.SelectionFacts.{whole_selection}

-- ---- no orders

-- of a trace that is reduced
pub reduced_no_order : (t small : TraceValue) → IsReduction t small → IsConsistent t → ⊥
reduced_no_order t small is =
    ⊎_elim
    (λ selection. selection_violation t small selection (violation_no_order small is.kept is.violation))
    (λ lone. λ (consistent : IsConsistent t). all_written t consistent.0 consistent.1 lone.load lone.unwritten)
    is.from

-- ---- small traces

-- a load of what nothing wrote, by itself
pub lone_reduction : (t small : TraceValue) (l : ℕ) → IsUnwritten t l → small ≡ lone_load t.setting.order → IsReduction t small
lone_reduction t small l unwritten is =
    subst (IsReduction t) (sym is)
    (record { kept = lone_is_trace t.setting.order; violation = inl (1, lone_unwritten t.setting.order); from = inr (record { load = l; unwritten = unwritten; alone = refl }) })

-- the trace itself
pub whole_reduction : (t : TraceValue) (c : Certificate) (steps : List CertStep) (cycle : List ℕ) → IsTrace t → c ≡ Cycle steps cycle → IsCertificateOf t c → IsReduction t t
whole_reduction t c steps cycle kept same is = record { kept = kept; violation = certificate_cause t c is; from = inl (whole_selection t kept (subst (IsCertificateOf t) same is).0) }

-- a selection that is judged to be a violation
pub judged_reduction : (t small : TraceValue) (origin : ℕ → ℕ) (finding : Finding) → IsTrace small → IsSelectionBy t small origin → IsFinding small finding → is_some finding.certificate ≡ true → IsReduction t small
judged_reduction t small origin finding kept selection found some = record { kept = kept; violation = certified small finding.certificate found.certificate some; from = inl (origin, selection) }

-- ---- verdicts

-- what is printed of a small trace
pub reduced_text : (t small : TraceValue) (text : List ℕ) (v : Verdict) → IsViolation t → IsReduction t small → text ≡ trace_text small → v ≡ Violation → IsReducedText t text v
reduced_text t small text v violation is says gives = subst (IsReducedText t text) (sym gives) (violation, small, is, says)

text_violation : (t : TraceValue) (text : List ℕ) (v : Verdict) → IsReducedText t text v → (v ≡ Violation) ↔ IsViolation t
text_violation t text NoViolation is = (λ e. absurd cc, λ violation. absurd (is.0 violation))
text_violation t text Violation is = (λ e. is.0, λ violation. refl)
text_violation t text Refused is = absurd is

-- the same of a load of what nothing wrote, where memory didn't run out
pub lone_text : {F : Type 0} (t small : TraceValue) (l : ℕ) (outcome : Result Reduction F) → IsUnwritten t l → small ≡ lone_load t.setting.order →
    IfOk outcome (λ r. string_bytes r.text ≡ trace_text small) → IfOk outcome (λ r. r.verdict ≡ Violation) → IfOk outcome (λ r. IsReducedText t (string_bytes r.text) r.verdict)
lone_text t small l (Ok r) unwritten is says gives = reduced_text t small (string_bytes r.text) r.verdict (inl (l, unwritten)) (lone_reduction t small l unwritten is) says gives
lone_text t small l (Err fault) unwritten is says gives = tt

pub reduction_violation : (input text : List ℕ) (v : Verdict) → IsReductionOf input text v → (v ≡ Violation) ↔ SpellsViolation input
reduction_violation input text v (inl (t, spells, is)) =
    let says = text_violation t text v is in
    (λ e. (t, spells, says.0 e), λ s. says.1 (subst IsViolation (trace_laws.one_value input s.0 t s.1 spells) s.2))
reduction_violation input text v (inr (line, why, refused, whole, is)) = (λ e. let other : Refused ≡ Violation = sym is ∙ e in absurd cc, λ s. absurd (trace_laws.not_both input s.0 line why s.1 refused))

pub reduction_no_order : (input text : List ℕ) (v : Verdict) → IsReductionOf input text v → v ≡ Violation → (t : TraceValue) → SpellsTrace input t → IsConsistent t → ⊥
reduction_no_order input text v is e t spells =
    let spelled = (reduction_violation input text v is).0 e in
    violation_no_order t spells.0 (subst IsViolation (trace_laws.one_value input spelled.0 t spelled.1 spells) spelled.2)

-- ---- readers

pub reduction_of_prefix : (input text : List ℕ) (v : Verdict) → IsReductionOf (take trace_read_limit input) text v → IsReductionOf input text v
reduction_of_prefix input text v (inl p) = inl (p.0, spells_of_prefix input p.0 p.1, p.2)
reduction_of_prefix input text v (inr p) = inr (p.0, p.1, refusal_of_prefix input p.0 p.1 p.2, p.3, p.4)

-- what is printed of the bytes that were read is so of the reader's
reduction_of_reader : (remaining : Option (List ℕ)) (bytes seen text : List ℕ) (v : Verdict) → IfSome remaining (λ all. bytes ≡ take trace_read_limit all) → seen ≡ bytes →
    IsReductionOf seen text v → IsReductionOfReader remaining text v
reduction_of_reader remaining bytes seen text v prefix same is = reads_as (λ input. IsReductionOf input text v) trace_read_limit (λ all. reduction_of_prefix all text v) remaining bytes seen prefix same is

-- the same, where memory didn't run out
pub reduction_read : {F : Type 0} (remaining : Option (List ℕ)) (bytes seen : List ℕ) (outcome : Result Reduction F) → IfSome remaining (λ all. bytes ≡ take trace_read_limit all) → seen ≡ bytes →
    IfOk outcome (λ r. IsReductionOf seen (string_bytes r.text) r.verdict) → IfOk outcome (λ r. IsReductionOfReader remaining (string_bytes r.text) r.verdict)
reduction_read remaining bytes seen (Ok r) prefix same is = reduction_of_reader remaining bytes seen (string_bytes r.text) r.verdict prefix same is
reduction_read remaining bytes seen (Err fault) prefix same is = tt

pub on_ok : {X F P : Type 0} (outcome : Result X F) → P → IfOk outcome (λ _. P)
on_ok (Ok x) holds = holds
on_ok (Err fault) holds = tt

pub violation_of_reader : (remaining : Option (List ℕ)) (text : List ℕ) (v : Verdict) → IsReductionOfReader remaining text v → IfSome remaining (λ all. (v ≡ Violation) ↔ SpellsViolation all)
violation_of_reader None text v is = tt
violation_of_reader (Some all) text v is = reduction_violation all text v is.of_all

pub no_order_of_reader : (remaining : Option (List ℕ)) (text : List ℕ) (v : Verdict) → IsReductionOfReader remaining text v → v ≡ Violation →
    IfSome remaining (λ all. (t : TraceValue) → SpellsTrace all t → IsConsistent t → ⊥)
no_order_of_reader None text v is e = tt
no_order_of_reader (Some all) text v is e = reduction_no_order all text v is.of_all e

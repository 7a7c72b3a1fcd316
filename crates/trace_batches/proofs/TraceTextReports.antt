-- Lemmas on the report of a trace text past the limit.
use Rattle.std.proofs.Common.{◌≡◌, ◌↔◌, ℕ, ◌<◌, List, length, refl, sym, subst, inr}
use Rattle.trace_reports.specs.declared.verdicts.Verdict.{Verdict}
use Rattle.trace_reports.specs.declared.verdicts.Verdict.TheVariants.{Refused}
use Rattle.trace_reports.specs.RefusalLines.{refusal_text}
use Rattle.trace_reports.specs.Reports.{IsReport, rendered_refusal, reported}
use Rattle.trace_reports.proofs.RenderingFacts.{one_text}
use Rattle.tso_text.specs.declared.faults.Why.TheVariants.{TooLong}
use Rattle.tso_text.specs.Texts.{text_byte_limit}
use Rattle.tso_text.proofs.TextLaws.{trace_laws}

-- a report with this text and this verdict
with_both : (piece : List ℕ) (a b : List ℕ) (v w : Verdict) → a ≡ b → v ≡ w → IsReport piece a v → IsReport piece b w
with_both piece a b v w text verdict report = subst (λ x. IsReport piece b x) verdict (subst (λ t. IsReport piece t v) text report)

refusal_of_long : (piece : List ℕ) → text_byte_limit < length piece → IsReport piece (refusal_text 0 TooLong) Refused
refusal_of_long piece long = inr (0, TooLong, trace_laws.too_long piece long, refl, refl)

pub long_report : (piece text : List ℕ) (verdict : Verdict) → text_byte_limit < length piece → IsReport piece text verdict ↔ ((text ≡ refusal_text 0 TooLong) × (verdict ≡ Refused))
long_report piece text verdict long =
    let refusal = refusal_of_long piece long in
    (λ report. one_text reported rendered_refusal piece text (refusal_text 0 TooLong) verdict Refused report refusal, λ says. with_both piece (refusal_text 0 TooLong) text Refused verdict (sym says.0) (sym says.1) refusal)

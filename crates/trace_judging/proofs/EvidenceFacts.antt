-- Lemmas on the report of two texts, of a trace and of evidence about it, and on what was read of them.
use Rattle.std.proofs.Common.{◌≡◌, ℕ, ◌<◌, ◌≤◌, List, length, take, Some, None, IfSome, sym, subst, ◌∙◌, arith, inl, inr, ⊎_elim}
use Rattle.std.proofs.lemmas.Bool.{cases_lt}
use Rattle.std.proofs.lemmas.List.{take_all, length-take-le}
use Rattle.std.specs.Prelude.{Option}
use Rattle.tso_ops.specs.Values.{TraceValue}
use Rattle.tso_text.specs.Texts.{SpellsTrace}
use Rattle.trace_streams.specs.Limits.{trace_read_limit}
use Rattle.tso_text.specs.Refusals.{IsRefusedTrace}
use Rattle.tso_text.proofs.TextLaws.{trace_laws}
use Rattle.trace_reports.specs.Reports.{rendered_refusal}
use Rattle.trace_judging.specs.Evidence.{IsReportOfEvidence, IsReportOfReaders, IsReportOfTexts, ReportsEvidence}
use Rattle.trace_judging.specs.Limits.{certificate_byte_limit, certificate_read_limit}
use Rattle.trace_reports.proofs.RenderingFacts.{IsRenderedRefusal}
use Rattle.trace_streams.proofs.InputFacts.{refusal_of_prefix, spells_of_prefix}
use Rattle.text_streams.proofs.ReadingFacts.{reads_any, reads_as, reads_more}

-- a prefix that ends before the limit is all
take_short : (all : List ℕ) → length (take certificate_read_limit all) ≤ certificate_byte_limit → take certificate_read_limit all ≡ all
take_short all few = ⊎_elim long short (cases_lt certificate_byte_limit (length all))
  where
    short : length all ≤ certificate_byte_limit → take certificate_read_limit all ≡ all
    short fits = take_all certificate_read_limit all (omega arith)

    long : certificate_byte_limit < length all → take certificate_read_limit all ≡ all
    long past = let count = length-take-le certificate_read_limit all (omega arith) in absurd (omega (arith, few, count))

-- what spells a trace isn't refused
pub not_refused_trace : (X : Type 0) (input : List ℕ) (t : TraceValue) → SpellsTrace input t → IsRefusedTrace input → X
not_refused_trace X input t spells refused = absurd (trace_laws.not_both input t refused.0 refused.1 spells refused.2)

-- the report on a trace of the evidence that a reader has, by what was read of it
pub report_of_spelled : {V : Type 0} (is_report : ReportsEvidence V) (refusing : V) (trace : List ℕ) (t : TraceValue) → SpellsTrace trace t → (remaining : Option (List ℕ)) (bytes seen text : List ℕ) (v : V) →
    IfSome remaining (λ all. bytes ≡ take certificate_read_limit all) → seen ≡ bytes → length bytes ≤ certificate_byte_limit → is_report t seen text v → IsReportOfEvidence is_report refusing remaining trace text v
report_of_spelled is_report refusing trace t spells remaining bytes seen text v prefix same few report =
    let Is : List ℕ → Type 0 = λ input. (length input ≤ certificate_byte_limit) × is_report t input text v in
    reads_more (λ input is. inl (t, spells, is)) remaining
    (reads_as Is certificate_read_limit (λ all is. subst Is (take_short all is.0) is) remaining bytes seen prefix same (subst (λ b. length b ≤ certificate_byte_limit) (sym same) few, report))

-- that of a refusal, whatever the evidence is
pub report_of_refused : {V : Type 0} (is_report : ReportsEvidence V) (refusing : V) (trace text : List ℕ) (v : V) → IsRenderedRefusal refusing rendered_refusal trace text v → (remaining : Option (List ℕ)) →
    IsReportOfEvidence is_report refusing remaining trace text v
report_of_refused is_report refusing trace text v refused remaining = reads_any (λ input. inr refused) remaining

module _ {V : Type 0} (is_report : ReportsEvidence V) (refusing : V) where
  -- the report on the bytes up to one past the limit is that on all
  report_of_prefix : (trace evidence text : List ℕ) (v : V) → IsReportOfTexts is_report refusing (take trace_read_limit trace) evidence text v → IsReportOfTexts is_report refusing trace evidence text v
  report_of_prefix trace evidence text v (inl p) = inl (p.0, spells_of_prefix trace p.0 p.1, p.2)
  report_of_prefix trace evidence text v (inr p) = inr (p.0, p.1, refusal_of_prefix trace p.0 p.1 p.2, p.3, p.4)

  pub evidence_of_prefix : (evidence : Option (List ℕ)) (trace text : List ℕ) (v : V) → IsReportOfEvidence is_report refusing evidence (take trace_read_limit trace) text v → IsReportOfEvidence is_report refusing evidence trace text v
  evidence_of_prefix evidence trace text v = reads_more (λ input. report_of_prefix trace input text v) evidence

  -- the report on what was read of a trace is that on all of it
  pub report_of_readers : (traces evidence : Option (List ℕ)) (bytes seen text : List ℕ) (v : V) → IfSome traces (λ all. bytes ≡ take trace_read_limit all) → seen ≡ bytes →
      IsReportOfEvidence is_report refusing evidence seen text v → IsReportOfReaders is_report refusing traces evidence text v
  report_of_readers traces evidence bytes seen text v prefix same =
      reads_as (λ trace. IsReportOfEvidence is_report refusing evidence trace text v) trace_read_limit (λ all. evidence_of_prefix evidence all text v) traces bytes seen prefix same

-- a text that is refused is so by what was read of it
pub refused_first : (all : List ℕ) → IsRefusedTrace all → IsRefusedTrace (take trace_read_limit all)
refused_first all refused = elim (trace_laws.either (take trace_read_limit all)) [
  | inl spelled ↦ absurd (trace_laws.not_both all spelled.0 refused.0 refused.1 (spells_of_prefix all spelled.0 spelled.1) refused.2)
  | inr is ↦ is
]

pub refused_by_read : {P : Type 0} (traces : Option (List ℕ)) (bytes seen : List ℕ) → IfSome traces (λ all. bytes ≡ take trace_read_limit all) → seen ≡ bytes → (IsRefusedTrace seen → P) →
    IfSome traces (λ all. IsRefusedTrace all → P)
refused_by_read None bytes seen prefix same holds = tt
refused_by_read (Some all) bytes seen prefix same holds = λ refused. holds (subst IsRefusedTrace (sym (same ∙ prefix)) (refused_first all refused))

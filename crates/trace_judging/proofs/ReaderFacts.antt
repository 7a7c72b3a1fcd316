-- Lemmas on what is written of the bytes of a reader, and what a fault leaves of it.
use Rattle.std.proofs.Common.{◌≡◌, ◌↔◌, ℕ, ◌<◌, ◌≤◌, List, length, take, Some, None, Ok, Err, Result, IfOk, IfSome, ap, refl, sym, subst, ◌∙◌, arith, inl, inr, ⊎_elim}
use Rattle.std.proofs.lemmas.Bool.{cases_lt}
use Rattle.std.proofs.lemmas.List.{take_all}
use Rattle.std.specs.Prelude.{Option}
use Rattle.std.specs.Io.KnownBytes.{Appends}
use Rattle.tso_ops.specs.Values.{TraceValue}
use Rattle.tso_text.specs.declared.faults.Why.{Why}
use Rattle.tso_text.specs.Texts.{text_byte_limit, SpellsTrace}
use Rattle.trace_streams.specs.Limits.{trace_read_limit}
use Rattle.tso_text.specs.Refusals.{IsTraceRefusal}
use Rattle.tso_text.proofs.TextLaws.{trace_laws}
use Rattle.tso_model.specs.Axioms.{IsConsistent}
use Rattle.trace_reports.specs.declared.verdicts.Verdict.{Verdict}
use Rattle.trace_reports.specs.declared.verdicts.Verdict.TheVariants.{Violation, Refused}
use Rattle.trace_reports.specs.Renderings.{IsTextOf, IsTextOfBytes, IsTextOfTrace, RendersRefusal}
use Rattle.trace_reports.specs.Reports.{rendered_refusal, reported, IsReport, ShowsViolationOf, SpellsViolation}
use Rattle.trace_reports.proofs.RenderingFacts.{no_order, shows_violation, violation_exactly}
use Rattle.text_streams.specs.declared.faults.Fault.{Fault}
use Rattle.trace_judging.specs.WrittenReports.{IsReportOfReader}
use Rattle.text_streams.specs.WrittenTexts.{WritesWhole}
use Rattle.text_streams.proofs.ReadingFacts.{reads_as}
use Rattle.trace_streams.proofs.InputFacts.{refusal_of_prefix, refused_whole, spells_of_prefix}

-- ---- what is read of a long input

-- nothing is shown of a text that is refused as a whole
abbrev pub ShowsNoWhole : RendersRefusal → Type 0
ShowsNoWhole refused = (a b : List ℕ) (why : Why) → refused a 0 why ≡ refused b 0 why

-- of the prefix up to one past the limit the same refusal is rendered as of all
same_of_prefix : (refused : RendersRefusal) → ShowsNoWhole refused → (input : List ℕ) (line : ℕ) (why : Why) → IsTraceRefusal (take trace_read_limit input) line why →
    refused (take trace_read_limit input) line why ≡ refused input line why
same_of_prefix refused whole input line why refusal =
    ⊎_elim
    (λ (past : text_byte_limit < length input).
    subst (λ l. refused (take trace_read_limit input) l why ≡ refused input l why) (sym (refused_whole input line why past refusal)) (whole (take trace_read_limit input) input why))
    (λ (fits : length input ≤ text_byte_limit). ap (λ bytes. refused bytes line why) (take_all trace_read_limit input (omega arith)))
    (cases_lt text_byte_limit (length input))

-- all spells what the prefix spells, and no more
prefix_spells : (input : List ℕ) (t : TraceValue) → SpellsTrace input t → SpellsTrace (take trace_read_limit input) t
prefix_spells input t spells = elim (trace_laws.either (take trace_read_limit input)) [
  | inl s ↦ subst (SpellsTrace (take trace_read_limit input)) (trace_laws.one_value input s.0 t (spells_of_prefix input s.0 s.1) spells) s.1
  | inr r ↦ absurd (trace_laws.not_both input t r.0 r.1 spells (refusal_of_prefix input r.0 r.1 r.2))
]

-- what holds of the one trace that an input spells
pub says_of_spelled : (Says : TraceValue → Type 0) (input : List ℕ) (t : TraceValue) → SpellsTrace input t → Says t → (u : TraceValue) → SpellsTrace input u → Says u
says_of_spelled Says input t spells is u also = subst Says (trace_laws.one_value input t u spells also) is

-- a refused input spells none
pub says_of_refused : (Says : TraceValue → Type 0) (input : List ℕ) (line : ℕ) (why : Why) → IsTraceRefusal input line why → (u : TraceValue) → SpellsTrace input u → Says u
says_of_refused Says input line why refused u spells = absurd (trace_laws.not_both input u line why spells refused)

-- what holds of the trace that is spelled by what was read holds of that of all
pub spelled_by_all : (Says : TraceValue → Type 0) (remaining : Option (List ℕ)) (bytes seen : List ℕ) → IfSome remaining (λ all. bytes ≡ take trace_read_limit all) → seen ≡ bytes →
    ((t : TraceValue) → SpellsTrace seen t → Says t) → IfSome remaining (λ all. (t : TraceValue) → SpellsTrace all t → Says t)
spelled_by_all Says None bytes seen prefix same says = tt
spelled_by_all Says (Some all) bytes seen prefix same says = λ t spells. says t (subst (λ b. SpellsTrace b t) (sym (same ∙ prefix)) (prefix_spells all t spells))

module _ {V : Type 0} (is_text : TraceValue → List ℕ → V → Type 0) (refusing : V) (refused : RendersRefusal) where
  -- of the prefix up to one past the limit the same is rendered as of all
  pub text_of_prefix : ShowsNoWhole refused → (input text : List ℕ) (v : V) → IsTextOf is_text refusing refused (take trace_read_limit input) text v → IsTextOf is_text refusing refused input text v
  text_of_prefix whole input text v (inl p) = inl (p.0, spells_of_prefix input p.0 p.1, p.2)
  text_of_prefix whole input text v (inr p) = inr (p.0, p.1, refusal_of_prefix input p.0 p.1 p.2, p.3 ∙ same_of_prefix refused whole input p.0 p.1 p.2, p.4)

  pub text_of_reader : ShowsNoWhole refused → (remaining : Option (List ℕ)) (bytes seen text : List ℕ) (v : V) → IfSome remaining (λ all. bytes ≡ take trace_read_limit all) → seen ≡ bytes →
      IsTextOf is_text refusing refused seen text v → IsTextOfBytes is_text refusing refused remaining text v
  text_of_reader whole remaining bytes seen text v prefix same is =
      reads_as (λ input. IsTextOf is_text refusing refused input text v) trace_read_limit (λ all. text_of_prefix whole all text v) remaining bytes seen prefix same is

-- ---- reports

-- The report of the bytes up to one past the limit is that of all.
pub report_of_prefix : (input text : List ℕ) (v : Verdict) → IsReport (take trace_read_limit input) text v → IsReport input text v
report_of_prefix = text_of_prefix (IsTextOfTrace reported) Refused rendered_refusal (λ a b why. refl)

-- where a report was written, its verdict is Violation exactly where a violation is spelled
pub violation_written : (remaining old new : Option (List ℕ)) (outcome : Result Verdict Fault) → IfOk outcome (WritesWhole (IsReportOfReader remaining) old new) →
    IfOk outcome (λ verdict. IfSome remaining (λ all. (verdict ≡ Violation) ↔ SpellsViolation all))
violation_written None old new (Ok v) writes = tt
violation_written (Some all) old new (Ok v) writes = violation_exactly reported rendered_refusal all writes.0 v writes.1.of_all
violation_written remaining old new (Err fault) writes = tt

-- then no order was left
pub no_order_written : (remaining old new : Option (List ℕ)) (outcome : Result Verdict Fault) → IfOk outcome (WritesWhole (IsReportOfReader remaining) old new) →
    IfOk outcome (λ verdict. verdict ≡ Violation → IfSome remaining (λ all. (t : TraceValue) → SpellsTrace all t → IsConsistent t → ⊥))
no_order_written None old new (Ok v) writes = λ e. tt
no_order_written (Some all) old new (Ok v) writes = no_order reported rendered_refusal all writes.0 v writes.1.of_all
no_order_written remaining old new (Err fault) writes = tt

-- where a report with the verdict Violation was written, it shows the violation
pub shows_violation_written : (remaining old new : Option (List ℕ)) (outcome : Result Verdict Fault) → IfOk outcome (WritesWhole (IsReportOfReader remaining) old new) →
    IfOk outcome (λ verdict. verdict ≡ Violation → IfSome remaining (λ all. (text : List ℕ) × ((t : TraceValue) × SpellsTrace all t × ShowsViolationOf t text) × Appends old new text))
shows_violation_written None old new (Ok v) writes = λ e. tt
shows_violation_written (Some all) old new (Ok v) writes = λ e. (writes.0, shows_violation all writes.0 v writes.1.of_all e, writes.2)
shows_violation_written remaining old new (Err fault) writes = tt

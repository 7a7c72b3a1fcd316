-- Small traces that show the violation of a trace, and what is printed of a trace by one.
use Rattle.std.specs.Prelude.{◌≡◌, ◌⊎◌, ℕ, List, false, Option}
use Rattle.tso_ops.specs.Values.{TraceValue}
use Rattle.tso_ops.specs.Limits.{IsTrace}
use Rattle.tso_ops.specs.Events.{IsUnwritten}
use Rattle.tso_text.specs.Printed.{trace_text}
use Rattle.log_selections.specs.Selections.{IsSelection}
use Rattle.log_selections.specs.Unwritten.{lone_load}
use Rattle.trace_reports.specs.declared.verdicts.Verdict.{Verdict}
use Rattle.trace_reports.specs.declared.verdicts.Verdict.TheVariants.{NoViolation, Violation, Refused}
use Rattle.text_streams.specs.Readings.{ReadsAs}
use Rattle.trace_reports.specs.Renderings.{IsTextOf}
use Rattle.trace_reports.specs.Reports.{rendered_refusal}
use Rattle.trace_reports.specs.Verdicts.{verdict_line}
use Rattle.trace_reports.specs.Violations.{IsViolation}

-- ---- small traces

-- A load of the trace read what nothing wrote, and the small trace is such a load by itself.
pub record IsLoneLoad (t small : TraceValue) : Type 0 where
  pub load : ℕ
  pub unwritten : IsUnwritten t load
  pub alone : small ≡ lone_load t.setting.order

-- The small trace shows that the trace is a violation: it keeps the limits of traces, it is a violation, and it is a selection of the trace, or a
-- load of what nothing wrote.
pub record IsReduction (t small : TraceValue) : Type 0 where
  pub kept : IsTrace small
  pub violation : IsViolation small
  pub from : IsSelection t small ⊎ IsLoneLoad t small

-- ---- texts

-- what is printed of a trace: where it is a violation a trace that shows this, else the line that says so
abbrev pub IsReducedText : TraceValue → List ℕ → Verdict → Type 0
IsReducedText t text NoViolation = (IsViolation t → ⊥) × (text ≡ verdict_line false)
IsReducedText t text Violation = IsViolation t × (small : TraceValue) × IsReduction t small × (text ≡ trace_text small)
IsReducedText t text Refused = ⊥

-- The text is printed of the trace that the input spells, or refuses the input.
abbrev pub IsReductionOf : List ℕ → List ℕ → Verdict → Type 0
IsReductionOf input text verdict = IsTextOf IsReducedText Refused rendered_refusal input text verdict

-- the same of the bytes of a reader
abbrev pub IsReductionOfReader : Option (List ℕ) → List ℕ → Verdict → Type 0
IsReductionOfReader remaining text verdict = ReadsAs remaining (λ input. IsReductionOf input text verdict)

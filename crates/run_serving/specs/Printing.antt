-- What the program prints of records and of refused texts.
use Rattle.std.specs.Prelude.{◌≡◌, ◌⊎◌, ℕ, List, [], ◌++◌, ◌&&◌, not, true, if◌then◌else◌}
use Rattle.tso_ops.specs.Values.{TraceValue}
use Rattle.tso_text.specs.declared.faults.Why.{Why}
use Rattle.tso_text.specs.Printed.{trace_text}
use Rattle.trace_reports.specs.declared.verdicts.Verdict.{Verdict}
use Rattle.trace_reports.specs.declared.verdicts.Verdict.TheVariants.{NoViolation}
use Rattle.trace_explanation.specs.Explained.{IsTraceExplanation}
use Rattle.tso_report.specs.AccountTexts.{account_text}
use Rattle.trace_reports.specs.RefusalLines.{refusal_text}
use Rattle.trace_reports.specs.Reports.{IsTraceReport}
use Rattle.command_line.specs.declared.options.Printing.{Printing}
use Rattle.command_line.specs.declared.options.Printing.TheVariants.{Report, Trace, Explanation}
use Rattle.command_line.specs.declared.options.RunOptions.{RunOptions}
use Rattle.command_line.specs.declared.options.UnitOptions.{UnitOptions}
use Rattle.command_line.specs.Requests.{prints_trace}
use Rattle.unit_core.specs.declared.accounts.Account.{Account}
use Rattle.unit_core.specs.Records.{RecordedValue}
use Rattle.unit_core.specs.Units.{UnitValue, new_unit}
use Rattle.run_serving.specs.BenchUnits.{design_of_kind, is_lawful_kind, order_of_kind}
use Rattle.trace_reports.specs.Statuses.{status_of}

-- ---- the unit

-- the unit that the options ask for, before its first step
abbrev pub unit_of : UnitOptions → UnitValue
unit_of options = new_unit (design_of_kind options.kind options.capacity options.trigger) (is_lawful_kind options.kind) (order_of_kind options.kind)

-- ---- what is printed of a record

-- Its trace, with the status of a text that was asked for; or the report of its trace, and the account; or the explanation of its trace. The verdict is no
-- violation where the record is lawful.
abbrev pub IsRenderedRecord : Printing → RecordedValue → Account → List ℕ → ℕ → Type 0
IsRenderedRecord Trace recorded account text status = (text ≡ trace_text recorded.trace) × (status ≡ 0)
IsRenderedRecord Report recorded account text status =
    (report : List ℕ) × (verdict : Verdict) × IsTraceReport recorded.trace report verdict × (recorded.lawful ≡ true → verdict ≡ NoViolation) × (text ≡ report ++ account_text account)
    × (status ≡ status_of verdict)
IsRenderedRecord Explanation recorded account text status =
    (verdict : Verdict) × IsTraceExplanation recorded.trace text verdict × (recorded.lawful ≡ true → verdict ≡ NoViolation) × (status ≡ status_of verdict)

-- the trace that follows, where it is asked for and isn't what is printed anyway
abbrev pub following_trace : RunOptions → TraceValue → List ℕ
following_trace options trace = if options.with_trace && not (prints_trace options.printing) then trace_text trace else []

-- what the options ask for, and the trace that follows
pub record PrintsRecord (options : RunOptions) (recorded : RecordedValue) (account : Account) (text : List ℕ) (status : ℕ) : Type 0 where
  pub presented : List ℕ
  pub presents : IsRenderedRecord options.printing recorded account presented status
  pub whole : text ≡ presented ++ following_trace options recorded.trace

-- ---- what is printed of texts

-- What is printed of bytes: this of the value that they spell, or the line of their refusal.
abbrev pub IsPrintedOf : {V : Type 0} → (List ℕ → V → Type 0) → (List ℕ → ℕ → Why → Type 0) → (V → List ℕ → ℕ → Type 0) → List ℕ → List ℕ → ℕ → Type 0
IsPrintedOf {V} Spells IsRefusal Prints bytes text status =
    ((v : V) × Spells bytes v × Prints v text status) ⊎ ((line : ℕ) × (why : Why) × IsRefusal bytes line why × (text ≡ refusal_text line why) × (status ≡ 2))

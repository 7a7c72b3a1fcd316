-- What the program prints of a run with a thread per processor.
use Rattle.std.specs.Prelude.{◌≡◌, ◌⊎◌, ℕ, zero, suc, ◌≤◌, List, [], ◌++◌, Option, Ok}
use Rattle.std.specs.Io.KnownBytes.{Keeps}
use Rattle.tso_ops.specs.Values.{ProgramValue}
use Rattle.text_streams.specs.Readings.{ReadsAs}
use Rattle.text_streams.specs.WrittenTexts.{WritesPrefix}
use Rattle.tso_text.specs.Printed.{trace_text}
use Rattle.tso_text.specs.Refusals.{IsProgramRefusal}
use Rattle.tso_text.specs.Texts.{SpellsProgram}
use Rattle.command_line.specs.declared.options.RunOptions.{RunOptions}
use Rattle.command_line.specs.declared.options.UnitOptions.{UnitOptions}
use Rattle.issue_desk.specs.Running.{Runs}
use Rattle.unit_core.specs.declared.accounts.Account.{Account}
use Rattle.unit_core.specs.Records.{RecordedValue}
use Rattle.run_serving.specs.Printing.{IsPrintedOf, PrintsRecord, unit_of}

-- The text and the status are those of a run of this program, on a unit as the options say.
pub record IsRunPrinted (options : RunOptions) (program : ProgramValue) (text : List ℕ) (status : ℕ) : Type 0 where
  pub recorded : RecordedValue
  pub account : Account
  pub runs : Runs program (unit_of options.unit) account (Ok recorded)
  pub prints : PrintsRecord options recorded account text status

-- What is printed for the text of a program, and the status then.
abbrev pub IsRunText : RunOptions → Option (List ℕ) → List ℕ → ℕ → Type 0
IsRunText options programs text status = ReadsAs programs (λ bytes. IsPrintedOf SpellsProgram IsProgramRefusal (IsRunPrinted options) bytes text status)

-- ---- more runs than one

-- The text is the trace of a run of this program, on a unit as the options say.
pub record IsTraceTextOfRun (options : UnitOptions) (program : ProgramValue) (text : List ℕ) : Type 0 where
  pub recorded : RecordedValue
  pub account : Account
  pub runs : Runs program (unit_of options) account (Ok recorded)
  pub is : text ≡ trace_text recorded.trace

-- The text is the traces of so many runs of this program, one after the other.
abbrev pub AreRunTraces : UnitOptions → ProgramValue → ℕ → List ℕ → Type 0
AreRunTraces options program zero text = text ≡ []
AreRunTraces options program (suc times) text =
    (before : List ℕ) × (last : List ℕ) × AreRunTraces options program times before × IsTraceTextOfRun options program last × (text ≡ before ++ last)

-- What is printed of so many runs of the program of a reader's bytes, and the status then.
abbrev pub IsRunTimesText : UnitOptions → ℕ → Option (List ℕ) → List ℕ → ℕ → Type 0
IsRunTimesText options times programs text status =
    ReadsAs programs (λ bytes. IsPrintedOf SpellsProgram IsProgramRefusal (λ program text status. AreRunTraces options program times text × (status ≡ 0)) bytes text status)

-- What is left where not all could be printed: nothing, or a prefix of what is printed of so many runs or fewer.
abbrev pub LeavesRunTimes : UnitOptions → ℕ → Option (List ℕ) → Option (List ℕ) → Option (List ℕ) → Type 0
LeavesRunTimes options times programs old new = Keeps old new ⊎ ((done : ℕ) × (done ≤ times) × WritesPrefix (IsRunTimesText options done programs) old new)

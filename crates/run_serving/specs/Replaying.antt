-- What the program prints of a replay.
use Rattle.std.specs.Prelude.{ℕ, List, Option, Ok}
use Rattle.tso_ops.specs.Values.{ProgramValue}
use Rattle.tso_ops.specs.declared.acts.Act.{Act}
use Rattle.text_streams.specs.Readings.{ReadsAs}
use Rattle.tso_text.specs.Refusals.{IsProgramRefusal, IsScheduleRefusal}
use Rattle.tso_text.specs.Texts.{SpellsProgram, SpellsSchedule}
use Rattle.command_line.specs.declared.options.RunOptions.{RunOptions}
use Rattle.unit_core.specs.declared.accounts.Account.{Account}
use Rattle.unit_core.specs.Records.{RecordedValue}
use Rattle.unit_core.specs.Replays.{Replays}
use Rattle.run_serving.specs.Printing.{IsPrintedOf, PrintsRecord, unit_of}

-- The text and the status are those of a replay of this program by this schedule, on a unit as the options say.
pub record IsReplayOf (options : RunOptions) (program : ProgramValue) (schedule : List Act) (text : List ℕ) (status : ℕ) : Type 0 where
  pub recorded : RecordedValue
  pub account : Account
  pub replays : Replays program schedule (unit_of options.unit) account (Ok recorded)
  pub prints : PrintsRecord options recorded account text status

-- What is printed of this program for the text of a schedule, and the status then.
abbrev pub IsScheduledText : RunOptions → Option (List ℕ) → ProgramValue → List ℕ → ℕ → Type 0
IsScheduledText options schedules program text status = ReadsAs schedules (λ bytes. IsPrintedOf SpellsSchedule IsScheduleRefusal (IsReplayOf options program) bytes text status)

-- What is printed for the texts of a program and of a schedule, and the status then.
abbrev pub IsReplayText : RunOptions → Option (List ℕ) → Option (List ℕ) → List ℕ → ℕ → Type 0
IsReplayText options programs schedules text status = ReadsAs programs (λ bytes. IsPrintedOf SpellsProgram IsProgramRefusal (IsScheduledText options schedules) bytes text status)

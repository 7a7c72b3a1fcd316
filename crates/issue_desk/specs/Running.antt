-- What a run with a thread per processor gives.
use Rattle.std.specs.Prelude.{◌≡◌, ◌&&◌, true, Result, IfOk}
use Rattle.tso_ops.specs.Values.{ProgramValue, program_of}
use Rattle.unit_core.specs.declared.accounts.Account.{Account}
use Rattle.unit_core.specs.Records.{IsRecorded, RecordedValue, is_within}
use Rattle.unit_core.specs.Units.{UnitValue}
use Rattle.issue_desk.specs.declared.faults.RunFault.{RunFault}
use Rattle.issue_desk.specs.Finishing.{CountsRecord}

-- The record of a run of the program on the unit that was handed in: it is of this unit, its trace has all operations of the program and no others, and it is lawful where
-- the unit is, and not of PSO where the program is of TSO.
pub record IsRunOf (program : ProgramValue) (unit : UnitValue) (r : RecordedValue) : Type 0 where
  pub design : r.design ≡ unit.design
  pub ops : program_of r.trace ≡ program
  pub lawful : r.lawful ≡ (unit.lawful && is_within unit.order program.setting.order)
  pub kept : IsRecorded r

-- The account is closed; a record is that of a run of the program, with its numbers.
pub record Runs (program : ProgramValue) (unit : UnitValue) (account : Account) (result : Result RecordedValue RunFault) : Type 0 where
  pub closed : account.closed ≡ true
  pub recorded : IfOk result (IsRunOf program unit)
  pub counted : CountsRecord program account result

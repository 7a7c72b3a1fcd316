-- What the end of a run gives.
use Rattle.std.specs.Prelude.{◌≡◌, ◌≢◌, ℕ, ◌<◌, Option, None, Some, List, length, map, slice_get, true, Result, Ok, Err}
use Rattle.tso_ops.specs.Values.{ProgramValue, op_of, ops_at}
use Rattle.unit_core.specs.declared.accounts.Account.{Account}
use Rattle.unit_core.specs.declared.steps.Step.{Step}
use Rattle.unit_core.specs.Accounts.{IsAccountOf}
use Rattle.unit_core.specs.Machine.{outcomes_of}
use Rattle.unit_core.specs.Records.{IsRecordOf, RecordedValue}
use Rattle.unit_core.specs.Replays.{CountsProgram}
use Rattle.unit_core.specs.Units.{UnitValue, TakesDrains}
use Rattle.issue_desk.specs.declared.faults.RunFault.{RunFault}
use Rattle.issue_desk.specs.declared.faults.RunFault.TheVariants.{OutOfMemory, NoThread, Torn, OtherProgram}
use Rattle.issue_desk.specs.Desks.{DeskValue, PassValue}

-- There is one pass for each processor of the program, in order.
pub record ArePassesOf (program : ProgramValue) (passes : List PassValue) : Type 0 where
  pub count : length passes ≡ length program.lists
  pub processors : (p : ℕ) (pass : PassValue) → slice_get passes p ≡ Some pass → pass.processor ≡ p

-- The pass has just the outcomes of its processor's steps, in order, and these are all its operations in the program.
pub record Agrees (steps : List Step) (program : ProgramValue) (pass : PassValue) : Type 0 where
  pub answered : pass.outcomes ≡ outcomes_of pass.processor steps
  pub ops : map op_of pass.outcomes ≡ ops_at program pass.processor

-- so do the passes of all processors below this one
abbrev pub AgreeBelow : ℕ → List Step → ProgramValue → List PassValue → Type 0
AgreeBelow past steps program passes = (p : ℕ) (pass : PassValue) → p < past → slice_get passes p ≡ Some pass → Agrees steps program pass

-- The pass of processor p doesn't agree, and those before it do.
pub record IsTorn (p : ℕ) (steps : List Step) (program : ProgramValue) (passes : List PassValue) : Type 0 where
  pub pass : PassValue
  pub is : slice_get passes p ≡ Some pass
  pub torn : Agrees steps program pass → ⊥
  pub before : AgreeBelow p steps program passes

abbrev pub IsFirstTorn : List Step → ProgramValue → List PassValue → Option ℕ → Type 0
IsFirstTorn steps program passes (Some p) = IsTorn p steps program passes
IsFirstTorn steps program passes None = AgreeBelow (length passes) steps program passes

-- All passes agree, and the desk's program is the one handed in.
abbrev pub IsWhole : DeskValue → ProgramValue → List PassValue → Type 0
IsWhole desk program passes = AgreeBelow (length passes) desk.unit.steps program passes × (desk.program ≡ program)

-- What the comparison answers: the least processor that is torn, or else that the programs differ.
abbrev pub AnswersCompare : ProgramValue → List Step → ProgramValue → List PassValue → Result (Unit {0}) RunFault → Type 0
AnswersCompare own steps program passes (Ok done) = AgreeBelow (length passes) steps program passes × (own ≡ program)
AnswersCompare own steps program passes (Err OutOfMemory) = ⊥
AnswersCompare own steps program passes (Err NoThread) = ⊥
AnswersCompare own steps program passes (Err (Torn p)) = IsTorn p steps program passes
AnswersCompare own steps program passes (Err OtherProgram) = AgreeBelow (length passes) steps program passes × (own ≢ program)

-- What the end of a desk answers, whose unit is then this: a record exactly where the run is whole and no memory is refused.
abbrev pub AnswersFinish : DeskValue → ProgramValue → List PassValue → UnitValue → Result RecordedValue RunFault → Type 0
AnswersFinish desk program passes unit (Ok r) = IsWhole desk program passes × IsRecordOf program unit r
AnswersFinish desk program passes unit (Err OutOfMemory) = IsWhole desk program passes
AnswersFinish desk program passes unit (Err NoThread) = ⊥
AnswersFinish desk program passes unit (Err (Torn p)) = IsTorn p desk.unit.steps program passes
AnswersFinish desk program passes unit (Err OtherProgram) = AgreeBelow (length passes) desk.unit.steps program passes × (desk.program ≢ program)

-- On a record the account has the program's numbers, and where it is lawful as many drains as stores.
abbrev pub CountsRecord : ProgramValue → Account → Result RecordedValue RunFault → Type 0
CountsRecord program account (Ok r) = CountsProgram program account × (r.lawful ≡ true → account.drains ≡ account.stores)
CountsRecord program account (Err fault) = Unit {0}

-- The unit was drained, up to a refusal if there was one, where the run is whole, and then it was ended. The account has all of its steps.
pub record Finishes (desk : DeskValue) (program : ProgramValue) (passes : List PassValue) (account : Account) (result : Result RecordedValue RunFault) : Type 0 where
  pub unit : UnitValue
  pub drained : TakesDrains desk.unit unit 0 (length program.lists)
  pub closed : IsAccountOf unit.steps account
  pub answered : AnswersFinish desk program passes unit result
  pub counted : CountsRecord program account result

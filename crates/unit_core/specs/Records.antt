-- What is recorded of a unit's steps at its end.
use Rattle.std.specs.Prelude.{◌≡◌, ℕ, ◌<◌, ◌≤◌, List, [], Bool, true, false, ◌&&◌, length, map, Result, IfOk}
use Rattle.std.specs.declared.alloc.AllocError.{AllocError}
use Rattle.tso_ops.specs.declared.settings.Order.{Order}
use Rattle.tso_ops.specs.declared.settings.Order.TheVariants.{Tso, Pso}
use Rattle.tso_ops.specs.Values.{ProgramValue, TraceValue, op_of, ops_at, program_of}
use Rattle.unit_core.specs.declared.steps.Step.{Step}
use Rattle.unit_core.specs.declared.accounts.Account.{Account}
use Rattle.unit_core.specs.Accounts.{IsAccountOf}
use Rattle.unit_core.specs.Machine.{IsCompleteRun, buffer_of, after, first_state, outcomes_of, trace_of}
use Rattle.unit_core.specs.Units.{Design, UnitValue, TakesDrains}

-- Without drains, the steps are the operations of the program, all, by processor in order.
abbrev pub AreOpsOf : ProgramValue → List Step → Type 0
AreOpsOf program steps = (p : ℕ) → map op_of (outcomes_of p steps) ≡ ops_at program p

-- each run of the first memory model's machine is one of the second's
abbrev pub is_within : Order → Order → Bool
is_within Tso order = true
is_within Pso Tso = false
is_within Pso Pso = true

-- Where the unit is lawful, the buffers of the processors below this one are empty after its steps.
abbrev pub EmptiesBelow : UnitValue → ℕ → Type 0
EmptiesBelow u past = u.lawful ≡ true → (p : ℕ) → p < past → buffer_of (after (first_state u.first) u.steps) p ≡ []

-- which unit it was, the trace, the steps that it is the trace of, and whether the unit was lawful
pub record RecordedValue : Type 0 where
  pub design : Design
  pub trace : TraceValue
  pub steps : List Step
  pub lawful : Bool

-- What the type `Recorded` keeps: the trace is that of the steps, and where lawful they are a complete run of the trace's memory model.
pub record IsRecorded (r : RecordedValue) : Type 0 where
  pub trace : r.trace ≡ trace_of r.trace.setting (length r.trace.lists) r.steps
  pub all : (p : ℕ) → length r.trace.lists ≤ p → outcomes_of p r.steps ≡ []
  pub run : r.lawful ≡ true → IsCompleteRun r.trace.setting (length r.trace.lists) r.steps

-- The record of a run of the program on this unit.
pub record IsRecordOf (program : ProgramValue) (unit : UnitValue) (r : RecordedValue) : Type 0 where
  pub design : r.design ≡ unit.design
  pub trace : r.trace ≡ trace_of program.setting (length program.lists) unit.steps
  pub ops : program_of r.trace ≡ program
  pub steps : r.steps ≡ unit.steps
  pub lawful : r.lawful ≡ (unit.lawful && is_within unit.order program.setting.order)

-- The unit, which was `old`, was drained, processor by processor, up to a refusal if there was one; then it was recorded and ended. The account has
-- all of its steps.
pub record Concludes (program : ProgramValue) (old : UnitValue) (account : Account) (result : Result RecordedValue AllocError) : Type 0 where
  pub new : UnitValue
  pub drained : TakesDrains old new 0 (length program.lists)
  pub closed : IsAccountOf new.steps account
  pub recorded : IfOk result (IsRecordOf program new)
  pub balanced : IfOk result (λ r. r.lawful ≡ true → account.drains ≡ account.stores)

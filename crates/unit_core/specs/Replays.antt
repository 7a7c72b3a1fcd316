-- What a replay gives.
use Rattle.std.specs.Prelude.{◌≡◌, ℕ, ◌++◌, Bool, true, false, List, map, Result, IfOk, OnOk}
use Rattle.std.specs.List.{count_by}
use Rattle.std.specs.declared.alloc.AllocError.{AllocError}
use Rattle.tso_ops.specs.declared.ops.Op.{Op}
use Rattle.tso_ops.specs.declared.ops.Op.TheVariants.{Ld, St, Sw, Mb}
use Rattle.tso_ops.specs.Values.{ProgramValue, in_file_order, op_of, ops_at}
use Rattle.tso_ops.specs.declared.acts.Act.{Act}
use Rattle.unit_core.specs.declared.steps.Step.{Step}
use Rattle.unit_core.specs.declared.accounts.Account.{Account}
use Rattle.unit_core.specs.Accounts.{IsAccountOf}
use Rattle.unit_core.specs.Machine.{IsFirstMemory, outcomes_of}
use Rattle.unit_core.specs.Records.{IsRecordOf, RecordedValue}
use Rattle.unit_core.specs.Schedule.{BelongsTo}
use Rattle.unit_core.specs.Units.{UnitValue, IsUnit}

abbrev pub is_load_op : Op → Bool
is_load_op (Ld a) = true
is_load_op _ = false

abbrev pub is_store_op : Op → Bool
is_store_op (St a v) = true
is_store_op _ = false

abbrev pub is_swap_op : Op → Bool
is_swap_op (Sw a v) = true
is_swap_op _ = false

abbrev pub is_membar_op : Op → Bool
is_membar_op Mb = true
is_membar_op _ = false

-- Without drains, the steps of each processor are the first of its operations, so many as there are.
abbrev pub AreFirstOpsOf : ProgramValue → List Step → Type 0
AreFirstOpsOf program steps = (p : ℕ) → (rest : List Op) × (map op_of (outcomes_of p steps) ++ rest ≡ ops_at program p)

-- The account has as many loads, stores, swaps and membars as the program.
pub record CountsProgram (program : ProgramValue) (account : Account) : Type 0 where
  pub loads : account.loads ≡ count_by is_load_op (in_file_order program)
  pub stores : account.stores ≡ count_by is_store_op (in_file_order program)
  pub swaps : account.swaps ≡ count_by is_swap_op (in_file_order program)
  pub membars : account.membars ≡ count_by is_membar_op (in_file_order program)

-- The unit, which was `old` and had taken no step, took steps by the schedule and was ended, up to a refusal if there was one. The account has all
-- of its steps, which are the first operations of the program and, where the unit is lawful, a run of its machine from the program's first values.
-- Where the unit is lawful and none was refused, they belong to the schedule.
pub record Replays (program : ProgramValue) (schedule : List Act) (old : UnitValue) (account : Account) (result : Result RecordedValue AllocError) : Type 0 where
  pub new : UnitValue
  pub design : new.design ≡ old.design
  pub lawful : new.lawful ≡ old.lawful
  pub order : new.order ≡ old.order
  pub first : IsFirstMemory program.setting.first new.first
  pub unit : IsUnit new
  pub begun : AreFirstOpsOf program new.steps
  pub closed : IsAccountOf new.steps account
  pub recorded : IfOk result (IsRecordOf program new)
  pub counted : OnOk result (CountsProgram program account)
  pub balanced : IfOk result (λ r. r.lawful ≡ true → account.drains ≡ account.stores)
  pub belongs : old.lawful ≡ true → OnOk result (BelongsTo new.first program.lists schedule new.steps)

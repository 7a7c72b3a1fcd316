-- What a tally says of the operations that it has admitted.
use Rattle.std.specs.Prelude.{◌≡◌, ◌⊎◌, ℕ, nat_eq, List, ◌++◌}
use Rattle.std.specs.List.{list_any}
use Rattle.std.specs.Ordering.{nat_cmp}
use Rattle.std.specs.BTreeSet.{contains}
use Rattle.tso_ops.specs.declared.ops.Op.{Op}
use Rattle.tso_ops.specs.declared.faults.ValueFault.{ValueFault}
use Rattle.tso_ops.specs.declared.faults.ValueFault.TheVariants.{OutOfMemory}
use Rattle.tso_ops.specs.declared.limits.Tally.{Tally}
use Rattle.tso_ops.specs.Settings.{SettingValue, values_of}
use Rattle.tso_ops.specs.Limits.{KeepsLimits, IsFaultless, IsFirstFault, has_fault, total_events, total_barriers, stored_values}

-- The tally has admitted just these operations of the setting, in this order.
pub record Admitted (setting : SettingValue) (tally : Tally) (ops : List Op) : Type 0 where
  pub version : tally.version ≡ setting.version
  pub order : tally.order ≡ setting.order
  pub events : tally.events ≡ total_events ops
  pub barriers : tally.barriers ≡ total_barriers ops
  pub stored : (v : ℕ) → contains nat_cmp tally.stored v ≡ list_any (nat_eq v) (values_of setting.first ++ stored_values ops)
  pub limits : KeepsLimits setting ops
  pub faultless : IsFaultless (has_fault setting) ops

-- The refusal is the first fault of the operation after these, or memory was refused.
abbrev pub IsAdmitRefusal : SettingValue → List Op → Op → ValueFault → Type 0
IsAdmitRefusal setting ops op why = (why ≡ OutOfMemory) ⊎ IsFirstFault (has_fault setting) ops op why

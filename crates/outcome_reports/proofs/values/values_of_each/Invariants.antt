use Rattle.std.proofs.Common.{◌≡◌, map, take}
use Rattle.tso_ops.specs.Settings.{SettingValue}
use Rattle.tso_ops.specs.Values.{rows}
use Rattle.final_states.specs.FinalStates.{values_read}
use Rattle.outcome_reports.specs.Internal.Counting.{traces_by}
use Rattle.outcome_reports.proofs.values.values_of_each.Given as goal

abbrev pub invariant-loop-lists : goal.invariant-loop-lists
invariant-loop-lists l = (setting : SettingValue) → rows l.keys.items ≡ map values_read (traces_by setting (take l.lists-index l.traces))

use Rattle.std.proofs.Common.{◌≡◌, take}
use Rattle.tso_ops.specs.Values.{rows}
use Rattle.outcome_reports.proofs.ReadValues.{all_values}
use Rattle.outcome_reports.proofs.values.values_of_lists.Given as goal

abbrev pub invariant-loop-list : goal.invariant-loop-list
invariant-loop-list l = l.values.items ≡ all_values (rows (take l.list-index l.lists))

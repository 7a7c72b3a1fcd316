use Rattle.std.proofs.Common.{◌≡◌, take}
use Rattle.tso_ops.specs.Values.{rows}
use Rattle.outcome_reports.proofs.different.copy_lists.Given as goal

abbrev pub invariant-loop-list : goal.invariant-loop-list
invariant-loop-list l = rows l.copy.items ≡ rows (take l.list-index l.lists)

use Rattle.std.proofs.Common.{◌≡◌, take}
use Rattle.tso_ops.specs.Values.{rows}
use Rattle.tso_ops.proofs.programs.Program.copy.Given as goal

abbrev pub invariant-loop-list : goal.invariant-loop-list
invariant-loop-list l = rows l.lists.items ≡ take l.list-index (rows l.list-items)

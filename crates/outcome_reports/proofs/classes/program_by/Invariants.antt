use Rattle.std.proofs.Common.{◌≡◌, map, take}
use Rattle.tso_ops.specs.Values.{op_of, rows}
use Rattle.outcome_reports.proofs.classes.program_by.Given as goal

abbrev pub invariant-loop-p : goal.invariant-loop-p
invariant-loop-p l = rows l.lists.items ≡ map (map op_of) (take l.p l.trace.lists)

use Rattle.std.proofs.Common.{map, take, All}
use Rattle.tso_ops.proofs.CheckFacts.{AdmitsMore}
use Rattle.tso_ops.proofs.checks.admit_list.Given as goal

abbrev pub invariant-loop-item : goal.invariant-loop-item
invariant-loop-item g l =
    AdmitsMore l.fn.tally l.tally (map g.T.Operation.op (take l.item-index l.list)) × All g.T.Operation.fits (take l.item-index l.list)

use Rattle.std.proofs.Common.{take}
use Rattle.units_for_tests.specs.Issues.{Issues}
use Rattle.units_for_tests.proofs.issuing.issue_list.Given as goal

abbrev pub invariant-loop-op : goal.invariant-loop-op
invariant-loop-op g l = Issues (g.U.MemoryUnit.value_of l.fn.unit) (g.U.MemoryUnit.value_of l.unit) l.p (take l.op-index l.ops)

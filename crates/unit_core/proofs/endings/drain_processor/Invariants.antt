use Rattle.std.proofs.Common.{suc}
use Rattle.unit_core.specs.Units.{TakesDrains, waiting_of}
use Rattle.unit_core.proofs.endings.drain_processor.Given as goal

abbrev pub invariant-loop : goal.invariant-loop
invariant-loop g l = TakesDrains (g.U.MemoryUnit.value_of l.fn.unit) (g.U.MemoryUnit.value_of l.unit) l.p (suc l.p)

abbrev pub decreases-loop : goal.decreases-loop
decreases-loop g l = waiting_of (g.U.MemoryUnit.value_of l.unit) l.p

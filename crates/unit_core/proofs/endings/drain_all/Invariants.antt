use Rattle.unit_core.specs.Records.{EmptiesBelow}
use Rattle.unit_core.specs.Units.{TakesDrains}
use Rattle.unit_core.proofs.endings.drain_all.Given as goal

abbrev pub invariant-loop-p : goal.invariant-loop-p
invariant-loop-p g l = record {
  drained : TakesDrains (g.U.MemoryUnit.value_of l.fn.unit) (g.U.MemoryUnit.value_of l.unit) 0 l.p;
  empty : EmptiesBelow (g.U.MemoryUnit.value_of l.unit) l.p;
}

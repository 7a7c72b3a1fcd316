use Rattle.std.proofs.Common.{◌≡◌}
use Rattle.unit_core.specs.Machine.{IsFirstMemory}
use Rattle.units_for_tests.specs.Issues.{IssuesBelow}
use Rattle.units_for_tests.proofs.issuing.issue_program.Given as goal

abbrev pub invariant-loop-p : goal.invariant-loop-p
invariant-loop-p g l = record {
  below : IssuesBelow l.program (g.U.MemoryUnit.value_of l.unit) l.p;
  first : IsFirstMemory l.program.setting.first (g.U.MemoryUnit.value_of l.unit).first;
  lawful : (g.U.MemoryUnit.value_of l.unit).lawful ≡ (g.U.MemoryUnit.value_of l.fn.unit).lawful;
  order : (g.U.MemoryUnit.value_of l.unit).order ≡ (g.U.MemoryUnit.value_of l.fn.unit).order;
}

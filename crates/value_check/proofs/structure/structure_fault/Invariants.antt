use Rattle.std.proofs.Common.{◌≤◌, take}
use Rattle.value_check.proofs.StructureFacts.{Leaves}
use Rattle.value_check.proofs.structure.structure_fault.Given as goal

abbrev pub invariant-loop-k : goal.invariant-loop-k
invariant-loop-k l = record {
  leaves : Leaves (take l.k l.lines) l.structure.ended l.structure.missing;
  few : l.structure.missing ≤ l.k;
}

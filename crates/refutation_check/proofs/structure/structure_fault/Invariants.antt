use Rattle.std.proofs.Common.{take, reverse}
use Rattle.refutation_check.proofs.StructureFacts.{Leaves}
use Rattle.refutation_check.proofs.structure.structure_fault.Given as goal

abbrev pub invariant-loop-k : goal.invariant-loop-k
invariant-loop-k l = Leaves (take l.k l.lines) l.structure.ended (reverse l.structure.cases.items)

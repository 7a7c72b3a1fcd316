use Rattle.std.proofs.Common.{ℕ, take, nat_eq, IsTrue}
use Rattle.std.specs.HashSet.{contains}
use Rattle.std.specs.List.{AllByRecursion}
use Rattle.run_steps.specs.Names.{CellNames}
use Rattle.run_steps.proofs.names.add_of_block.Given as goal

abbrev pub invariant-loop-cell : goal.invariant-loop-cell
invariant-loop-cell l = record {
  named : AllByRecursion (CellNames (contains nat_eq l.names)) (take l.cell-index l.block.cells);
  kept : (n : ℕ) → IsTrue (contains nat_eq l.fn.names n) → IsTrue (contains nat_eq l.names n);
}

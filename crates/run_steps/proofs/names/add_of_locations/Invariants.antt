use Rattle.std.proofs.Common.{ℕ, map, nat_eq, IsTrue}
use Rattle.std.specs.HashSet.{contains}
use Rattle.std.specs.List.{AllByRecursion}
use Rattle.std.specs.Map.Iter.{deref}
use Rattle.run_steps.specs.Names.{CellNames}
use Rattle.run_steps.proofs.names.add_of_locations.Given as goal

abbrev pub invariant-loop-cell : goal.invariant-loop-cell
invariant-loop-cell l = record {
  named : AllByRecursion (CellNames (contains nat_eq l.names)) (map deref l.yielded);
  kept : (n : ℕ) → IsTrue (contains nat_eq l.fn.names n) → IsTrue (contains nat_eq l.names n);
}

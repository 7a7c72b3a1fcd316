use Rattle.std.proofs.Common.{ℕ, map, nat_eq, IsTrue}
use Rattle.std.specs.HashSet.{contains}
use Rattle.std.specs.List.{AllByRecursion}
use Rattle.std.specs.Map.Iter.{deref}
use Rattle.run_steps.specs.Names.{BlockNames}
use Rattle.run_steps.proofs.names.add_of_blocks.Given as goal

abbrev pub invariant-loop-block : goal.invariant-loop-block
invariant-loop-block l = record {
  named : AllByRecursion (BlockNames (contains nat_eq l.names)) (map deref l.yielded);
  kept : (n : ℕ) → IsTrue (contains nat_eq l.fn.names n) → IsTrue (contains nat_eq l.names n);
}

use Rattle.std.proofs.Common.{ℕ, take, nat_eq, IsTrue}
use Rattle.std.specs.HashSet.{contains}
use Rattle.std.specs.List.{AllByRecursion}
use Rattle.run_steps.proofs.names.add_of_buffer.Given as goal

abbrev pub invariant-loop-waits : goal.invariant-loop-waits
invariant-loop-waits l = record {
  named : AllByRecursion (λ w. IsTrue (contains nat_eq l.names w.store)) (take l.waits-index l.waiting);
  kept : (n : ℕ) → IsTrue (contains nat_eq l.fn.names n) → IsTrue (contains nat_eq l.names n);
}

use Rattle.std.proofs.Common.{ℕ, map, take, nat_eq, IsTrue}
use Rattle.std.specs.HashSet.{contains}
use Rattle.std.specs.List.{AllByRecursion}
use Rattle.run_steps.specs.Machine.{processor_state}
use Rattle.run_steps.specs.Names.{ProcessorNames}
use Rattle.run_steps.proofs.names.add_of_processors.Given as goal

abbrev pub invariant-loop-processor : goal.invariant-loop-processor
invariant-loop-processor l = record {
  named : AllByRecursion (ProcessorNames (contains nat_eq l.names)) (map processor_state (take l.processor-index l.processors));
  kept : (n : ℕ) → IsTrue (contains nat_eq l.fn.names n) → IsTrue (contains nat_eq l.names n);
}

use Rattle.std.proofs.Common.{◌≡◌, drop, map}
use Rattle.run_steps.specs.Machine.{oldest_waiting, processor_state}
use Rattle.run_steps.proofs.processors.oldest_waiting.Given as goal

abbrev pub invariant-loop-processor : goal.invariant-loop-processor
invariant-loop-processor l = oldest_waiting l.place (map processor_state (drop l.processor-index l.processors)) ≡ oldest_waiting l.place (map processor_state l.processors)

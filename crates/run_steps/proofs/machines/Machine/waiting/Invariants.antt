use Rattle.std.proofs.Common.{◌≡◌, ◌+◌, drop, length, map}
use Rattle.std.specs.List.{sum_by}
use Rattle.run_steps.specs.Machine.{ProcessorState, processor_state, state_of_machine}
use Rattle.run_steps.proofs.machines.Machine.waiting.Given as goal

abbrev pub invariant-loop-processor : goal.invariant-loop-processor
invariant-loop-processor l =
    l.count + sum_by (λ (x : ProcessorState). length x.waits) (map processor_state (drop l.processor-index l.processor-items))
    ≡ sum_by (λ (x : ProcessorState). length x.waits) (state_of_machine l.self).processors

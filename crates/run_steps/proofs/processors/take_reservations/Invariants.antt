use Rattle.std.proofs.Common.{◌≡◌, ◌++◌, map, take, drop}
use Rattle.run_steps.specs.Machine.{processors_after, processor_state}
use Rattle.run_steps.proofs.processors.take_reservations.Given as goal

abbrev pub invariant-loop-q : goal.invariant-loop-q
invariant-loop-q l =
    take l.q (map processor_state l.processors) ++ processors_after l.p l.place l.by l.q (drop l.q (map processor_state l.processors))
    ≡ processors_after l.p l.place l.by 0 (map processor_state l.initial.processors)

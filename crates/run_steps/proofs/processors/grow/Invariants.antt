use Rattle.std.proofs.Common.{◌≡◌, ◌++◌, ◌-◌, length, map, replicate}
use Rattle.run_steps.specs.Machine.{idle, processor_state}
use Rattle.run_steps.proofs.processors.grow.Given as goal

abbrev pub invariant-loop-q : goal.invariant-loop-q
invariant-loop-q l = record {
  counted : length l.processors.items ≡ l._q;
  more : map processor_state l.processors.items ≡ map processor_state l.initial.processors.items ++ replicate (l._q - length l.initial.processors.items) idle;
}

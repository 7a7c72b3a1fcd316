use Rattle.std.proofs.Common.{◌≡◌, ◌++◌, ◌-◌, length, take}
use Rattle.std.specs.Prelude.{reverse}
use Rattle.std.specs.List.{flat_map}
use Rattle.trace_explanation.specs.Steps.{step_numbers}
use Rattle.trace_pictures.proofs.wanted.push_steps.Given as goal

abbrev pub invariant-loop-done : goal.invariant-loop-done
invariant-loop-done l =
    l.numbers.items ++ flat_map (step_numbers l.trace) (reverse (take (length l.steps - l.done) l.steps)) ≡ l.fn.numbers.items ++ flat_map (step_numbers l.trace) (reverse l.steps)

use Rattle.std.proofs.Common.{◌-◌, length, refl}
use Rattle.trace_explanation.proofs.StepFacts.{numbers-step}
use Rattle.trace_explanation.proofs.numbers.list_numbers.Goals as goal

pub loop-done-preserved : goal.loop-done-preserved
loop-done-preserved c =
    let steps = c.args.steps.now in
    let k = length steps - 1 - c.loop-done.done in
    numbers-step steps c.loop-done.done k c.index-steps-k.result c.loop-done.numbers c.insert.new.self c.loop-done-test.true refl c.index-steps-k.is c.loop-done.invariant c.in_ok-insert.ensures.updates

use Rattle.std.proofs.Common.{subst, take}
use Rattle.std.proofs.lemmas.List.{take_all}
use Rattle.program_chains.specs.LogEvents.{log_trace}
use Rattle.value_check.specs.Internal.Known.{IsKnownBy}
use Rattle.value_check.proofs.InForceFacts.{steps_followed}
use Rattle.value_check.proofs.known.Known.by_steps.Goals as goal

pub loop-step-preserved : goal.loop-step-preserved
loop-step-preserved c = λ all.
    let t = log_trace c.args.log.now in
    let steps = c.args.steps.now in
    let k = c.loop-step.step-index in
    steps_followed t steps k c.loop-step.known c.follow.new.self _ c.loop-step-test.true all (c.loop-step.invariant all) (c.follow.ensures t (take k steps))

pub returns : goal.returns
returns c = λ all.
    subst (λ some. IsKnownBy (log_trace c.args.log.now) some c.loop-step.known) (take_all c.loop-step.step-index c.args.steps.now c.loop-step-test.false)
    (c.loop-step.invariant all)

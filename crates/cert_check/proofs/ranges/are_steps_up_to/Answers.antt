use Rattle.cert_check.specs.Refusals.{IsStepUpTo}
use Rattle.std.proofs.Common.{refl}
use Rattle.cert_check.proofs.Facts.{all_more, all_of}
use Rattle.cert_check.proofs.ranges.are_steps_up_to.Goals as goal

pub loop-step-preserved : goal.loop-step-preserved
loop-step-preserved c =
    all_more (IsStepUpTo c.args.last) c.args.steps.now c.loop-step.step-index c.step-item.result c.loop-step-test.true c.step-item.is c.loop-step.invariant
    (c.if-not-is_step_up_to.ensures.0 refl)

pub returns : goal.returns
returns c = all_of (IsStepUpTo c.args.last) c.args.steps.now c.loop-step.step-index c.loop-step-test.false c.loop-step.invariant

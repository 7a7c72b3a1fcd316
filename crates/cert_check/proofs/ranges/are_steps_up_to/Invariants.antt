use Rattle.std.proofs.Common.{take, All}
use Rattle.cert_check.specs.Refusals.{IsStepUpTo}
use Rattle.cert_check.proofs.ranges.are_steps_up_to.Given as goal

abbrev pub invariant-loop-step : goal.invariant-loop-step
invariant-loop-step l = All (IsStepUpTo l.last) (take l.step-index l.steps)

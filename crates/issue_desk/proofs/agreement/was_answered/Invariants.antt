use Rattle.std.proofs.Common.{◌≡◌, ◌≤◌, length, take}
use Rattle.unit_core.specs.Machine.{outcomes_of}
use Rattle.issue_desk.proofs.agreement.was_answered.Given as goal

abbrev pub invariant-loop-step : goal.invariant-loop-step
invariant-loop-step l = record {
  within : l.answered ≤ length l.outcomes;
  are : take l.answered l.outcomes ≡ outcomes_of l.p (take l.step-index l.steps);
}

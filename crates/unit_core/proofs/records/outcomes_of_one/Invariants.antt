use Rattle.std.proofs.Common.{◌≡◌, All, take}
use Rattle.tso_ops.specs.Values.{ReadFits}
use Rattle.unit_core.specs.Machine.{outcomes_of}
use Rattle.unit_core.proofs.records.outcomes_of_one.Given as goal

abbrev pub invariant-loop-step : goal.invariant-loop-step
invariant-loop-step l = record {
  are : l.list.items ≡ outcomes_of l.p (take l.step-index l.steps);
  fits : All ReadFits l.list.items;
}

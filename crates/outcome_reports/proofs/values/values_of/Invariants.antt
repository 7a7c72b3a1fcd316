use Rattle.std.proofs.Common.{◌≡◌, take}
use Rattle.outcome_reports.proofs.ReadValues.{all_values}
use Rattle.outcome_reports.proofs.values.values_of.Given as goal

abbrev pub invariant-loop-p : goal.invariant-loop-p
invariant-loop-p l = l.values.items ≡ all_values (take l.p l.trace.lists)

use Rattle.std.proofs.Common.{◌≡◌, ◌++◌, take}
use Rattle.std.specs.List.{filter_map}
use Rattle.final_states.specs.FinalStates.{value_read}
use Rattle.outcome_reports.proofs.values.push_values.Given as goal

abbrev pub invariant-loop-outcome : goal.invariant-loop-outcome
invariant-loop-outcome l = l.values.items ≡ l.fn.values.items ++ filter_map value_read (take l.outcome-index l.outcomes)

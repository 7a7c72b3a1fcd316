use Rattle.std.proofs.Common.{◌≡◌, All, take}
use Rattle.std.specs.List.{zip}
use Rattle.tso_ops.specs.Values.{ReadFits}
use Rattle.final_states.specs.Internal.Words.{outcomes_with}
use Rattle.final_states.proofs.finals.outcomes_of.Given as goal

abbrev pub invariant-loop-i : goal.invariant-loop-i
invariant-loop-i l = record {
  outcomes : l.outcomes.items ≡ outcomes_with (take l.i (zip l.ops l.marks));
  reads : All ReadFits l.outcomes.items;
}

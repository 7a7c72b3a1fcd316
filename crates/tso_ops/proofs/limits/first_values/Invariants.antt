use Rattle.std.proofs.Common.{take}
use Rattle.tso_ops.proofs.EntryFacts.{HasValues}
use Rattle.tso_ops.proofs.limits.first_values.Given as goal

abbrev pub invariant-loop-entry : goal.invariant-loop-entry
invariant-loop-entry l = HasValues l.values (take l.entry-index l.first)

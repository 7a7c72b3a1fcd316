use Rattle.std.proofs.Common.{take}
use Rattle.tso_ops.proofs.EntryFacts.{AreChecked}
use Rattle.tso_ops.proofs.settings.check_first.Given as goal

abbrev pub invariant-loop-entry : goal.invariant-loop-entry
invariant-loop-entry l = AreChecked (take l.entry-index l.first) l.least

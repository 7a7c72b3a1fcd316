use Rattle.std.proofs.Common.{sym}
use Rattle.tso_ops.proofs.EntryFacts.{EndsBelow-last}
use Rattle.tso_ops.proofs.settings.end_of.Goals as goal

pub returns-in-Some : goal.returns-in-Some
returns-in-Some c = EndsBelow-last c.args.first.now c.in-Some.entry.now (sym c.in-Some.ensures.value)

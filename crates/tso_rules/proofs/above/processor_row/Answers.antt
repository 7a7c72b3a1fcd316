use Rattle.std.proofs.Common.{sym, ◌∙◌}
use Rattle.tso_rules.proofs.AboveFacts.{no_processor}
use Rattle.tso_rules.proofs.above.processor_row.Goals as goal

pub returns-in-None : goal.returns-in-None
returns-in-None c = λ m. no_processor c.args.trace.now c.args.n m (sym c.event.ensures ∙ c.in-None.is)

use Rattle.chain_rules.proofs.RowFacts.{ByLoad, ByLoad-none}
use Rattle.chain_rules.proofs.rows.lower_by_load.Goals as goal

pub returns-in-Some : goal.returns-in-Some
returns-in-Some c = ByLoad c.args.input.trace.now c.args.input.reach.now c.args.u c.args.least.now c.lower_store_past.new.least (c.requires.load.0, c.requires.load.1, c.requires.load.2) c.lower_store_past.ensures

pub returns-in_default : goal.returns-in_default
returns-in_default c = ByLoad-none c.args.input.trace.now c.args.input.reach.now c.args.u c.args.least.now (c.requires.load.0, c.requires.load.1, c.requires.load.2) (λ s source. c.in_default.not-Some s (c.source_number.ensures.all s source))

use Rattle.chain_rules.proofs.BaseReachFacts.{grows_more}
use Rattle.chain_rules.proofs.base.join_reads.Goals as goal

pub returns-clause-grows : goal.returns-clause-grows
returns-clause-grows c = grows_more c.args.trace.now c.args.reach.now c.join_source.new.reach c.join_before.new.reach c.join_source.ensures.grows c.join_before.ensures.grows

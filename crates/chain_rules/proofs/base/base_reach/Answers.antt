use Rattle.std.proofs.Common.{◌∙◌, arith}
use Rattle.chain_rules.proofs.BaseReachFacts.{first_none, first_next, rank_reach}
use Rattle.chain_rules.proofs.base.base_reach.Goals as goal

pub loop-u-init : goal.loop-u-init
loop-u-init c = first_none c.args.trace.now c.args.chains c.in_ok-reach.reach c.requires.chains c.in_ok-reach.ensures.chains c.in_ok-reach.ensures.leads

pub loop-u-preserved : goal.loop-u-preserved
loop-u-preserved c =
    first_next c.args.trace.now c.args.chains c.loop-u.reach c.join_later.new.reach c.loop-u.u c.loop-u.invariant c.join_later.ensures.grows c.join_later.ensures.led

pub returns-clause-reach : goal.returns-clause-reach
returns-clause-reach c =
    rank_reach c.args.trace.now c.args.chains c.loop-u.reach c.join_sources.new.reach c.settle.new.self c.loop-u.u c.requires.chains
    (omega (arith, c.loop-u-test.false, c.node_count-u-end.ensures.count)) c.loop-u.invariant c.join_sources.ensures.grows c.join_sources.ensures.led
    c.settle.ensures.chains c.settle.ensures.leads c.chains-chains.ensures.transitive

pub returns-clause-chains : goal.returns-clause-chains
returns-clause-chains c = c.settle.ensures.chains ∙ (c.join_sources.ensures.grows.chains ∙ c.loop-u.invariant.chains)

use Rattle.std.proofs.Common.{◌<◌, length, arith}
use Rattle.chain_reach.specs.Leading.{Leads}
use Rattle.chain_reach.proofs.types.Reach.has_cycle.Goals as goal

pub returns : goal.returns
unfolding Leads
returns c = λ x leads.
    let low : x < length c.args.self.now.chains.keys.items = leads.0 in
    c.loop-x.invariant x (omega (arith, low, c.loop-x-test.false, c.nodes-x-end.ensures.nodes)) leads

use Rattle.std.proofs.Common.{◌≡◌, ◌*◌, length, length-append, length-drop, arith}
use Rattle.std.proofs.lemmas.List.{length-take}
use Rattle.chain_reach.specs.Groups.{count_of}
use Rattle.program_chains.proofs.ReachFacts.{below_first, below_next, all_led}
use Rattle.program_chains.proofs.reaches.reach_of.Goals as goal

pub loop-v-init : goal.loop-v-init
loop-v-init c =
    let len : length c.in_ok-near.near.items ≡ c.saturating_mul.result = omega (arith, c.in_ok-near.ensures.len) in
    let small = c.in_ok-near.near.small in
    let count : c.count.result ≡ count_of c.args.chains = c.count.ensures in
    let sized : length c.in_ok-near.near.items ≡ count_of c.args.chains * 2 = omega (arith, len, small, count, c.saturating_mul.ensures) in
    record {
      led = below_first c.args.order c.args.events.now c.args.chains c.in_ok-reach.reach c.requires c.in_ok-reach.ensures.chains c.in_ok-reach.ensures.leads;
      near = sized;
    }

pub loop-v-preserved : goal.loop-v-preserved
loop-v-preserved c = record {
  led = below_next c.args.order c.args.events.now c.args.chains c.loop-v.reach c.join_earlier.new.reach c.loop-v.v c.loop-v.invariant.led c.join_earlier.ensures.grows c.join_earlier.ensures.led;
  near = simp (length-take, length-append, length-drop) (omega arith);
}

pub returns-clause-leads : goal.returns-clause-leads
returns-clause-leads c =
    all_led c.args.order c.args.events.now c.args.chains c.loop-v.reach c.settle.new.self c.loop-v.v c.loop-v.invariant.led c.loop-v-test.false c.settle.ensures.leads c.chains-chains.ensures.transitive

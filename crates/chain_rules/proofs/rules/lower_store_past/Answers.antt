use Rattle.std.proofs.Common.{◌+◌, ◌≤◌, arith}
use Rattle.tso_ops.specs.Events.{processor_count, IsEventOf}
use Rattle.tso_cert.specs.declared.rules.InferredRule.TheVariants.{StorePast}
use Rattle.chain_rules.proofs.LoopFacts.{IsBelow, LowersFor-none, LowersFor-then, LowersFor-all, below_none, processor_more, store_below}
use Rattle.chain_rules.proofs.rules.lower_store_past.Goals as goal

pub loop-p-init : goal.loop-p-init
loop-p-init c = LowersFor-none c.args.input.trace.now c.args.input.reach.now StorePast (λ l v. IsBelow c.args.input.trace.now 0 v) c.args.u c.args.least.now (λ l v. below_none c.args.input.trace.now v)

pub loop-p-preserved : goal.loop-p-preserved
loop-p-preserved c = LowersFor-then c.args.input.trace.now c.args.input.reach.now StorePast (λ l v. IsBelow c.args.input.trace.now c.loop-p.p v) (λ l v. IsEventOf c.args.input.trace.now c.loop-p.p v) (λ l v. IsBelow c.args.input.trace.now (c.loop-p.p + 1) v) c.args.u
    c.args.least.now c.loop-p.least c.store_past_of.new.least c.loop-p.invariant c.store_past_of.ensures (λ l v. processor_more c.args.input.trace.now c.loop-p.p v)

pub returns : goal.returns
returns c =
    let end : processor_count c.args.input.trace.now ≤ c.loop-p.p = (let stop = c.loop-p-test.false in let count = c.processors-p-end.ensures.count in omega (arith, stop, count)) in
    LowersFor-all c.args.input.trace.now c.args.input.reach.now StorePast (λ l v. IsBelow c.args.input.trace.now c.loop-p.p v) c.args.u c.args.least.now c.loop-p.least c.loop-p.invariant
    (λ l v. store_below c.args.input.trace.now c.args.input.reach.now c.args.u c.loop-p.p l v end)

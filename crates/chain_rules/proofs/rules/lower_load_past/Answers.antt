use Rattle.std.proofs.Common.{◌+◌, ◌≤◌, arith}
use Rattle.tso_ops.specs.Events.{processor_count, IsEventOf}
use Rattle.tso_cert.specs.declared.rules.InferredRule.TheVariants.{LoadPast}
use Rattle.chain_rules.proofs.LoopFacts.{IsBelow, LowersFor-none, LowersFor-then, LowersFor-all, below_none, processor_more, load_below}
use Rattle.chain_rules.proofs.rules.lower_load_past.Goals as goal

pub loop-p-init : goal.loop-p-init
loop-p-init c = LowersFor-none c.args.input.trace.now c.args.input.reach.now LoadPast (λ l v. IsBelow c.args.input.trace.now 0 l) c.args.u c.args.least.now (λ l v. below_none c.args.input.trace.now l)

pub loop-p-preserved : goal.loop-p-preserved
loop-p-preserved c = LowersFor-then c.args.input.trace.now c.args.input.reach.now LoadPast (λ l v. IsBelow c.args.input.trace.now c.loop-p.p l) (λ l v. IsEventOf c.args.input.trace.now c.loop-p.p l) (λ l v. IsBelow c.args.input.trace.now (c.loop-p.p + 1) l) c.args.u
    c.args.least.now c.loop-p.least c.load_past_of.new.least c.loop-p.invariant c.load_past_of.ensures (λ l v. processor_more c.args.input.trace.now c.loop-p.p l)

pub returns : goal.returns
returns c =
    let end : processor_count c.args.input.trace.now ≤ c.loop-p.p = (let stop = c.loop-p-test.false in let count = c.processors-p-end.ensures.count in omega (arith, stop, count)) in
    LowersFor-all c.args.input.trace.now c.args.input.reach.now LoadPast (λ l v. IsBelow c.args.input.trace.now c.loop-p.p l) c.args.u c.args.least.now c.loop-p.least c.loop-p.invariant
    (λ l v. load_below c.args.input.trace.now c.args.input.reach.now c.args.u c.loop-p.p l v end)

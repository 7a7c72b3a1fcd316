use Rattle.std.proofs.Common.{◌≡◌, ◌∙◌, suc, ◌+◌, ◌<◌, ◌≤◌, ap, arith}
use Rattle.tso_cert.specs.declared.rules.InferredRule.TheVariants.{SwapAfter}
use Rattle.chain_reach.specs.declared.types.Groups.{Groups}
use Rattle.chain_reach.specs.Groups.{count_of, group_of}
use Rattle.chain_rules.proofs.LoopFacts.{LowersFor-then, LowersFor-all, less_more, after_below}
use Rattle.chain_rules.proofs.rules.lower_swap_after.Goals as goal

pub loop-d-preserved : goal.loop-d-preserved
loop-d-preserved c = LowersFor-then c.args.input.trace.now c.args.input.reach.now SwapAfter (λ l v. group_of c.args.input.reach.now.chains v < c.loop-d.d) (λ l v. group_of c.args.input.reach.now.chains v ≡ c.loop-d.d) (λ l v. group_of c.args.input.reach.now.chains v < c.loop-d.d + 1) (suc c.args.l)
    c.args.least.now c.loop-d.least c.swap_after_in.new.least c.loop-d.invariant c.swap_after_in.ensures (λ l v. less_more (group_of c.args.input.reach.now.chains v) c.loop-d.d)

pub returns : goal.returns
returns c =
    let end : count_of c.args.input.reach.now.chains ≤ c.loop-d.d = (let stop = c.loop-d-test.false in let count = c.count-d-end.ensures ∙ ap (λ (g : Groups). count_of g) c.chains.ensures.chains in omega (arith, stop, count)) in
    LowersFor-all c.args.input.trace.now c.args.input.reach.now SwapAfter (λ l v. group_of c.args.input.reach.now.chains v < c.loop-d.d) (suc c.args.l) c.args.least.now c.loop-d.least c.loop-d.invariant
    (λ l v. after_below c.args.input.trace.now c.args.input.tables.now c.args.input.reach.now (suc c.args.l) c.loop-d.d l v c.requires.ready end)

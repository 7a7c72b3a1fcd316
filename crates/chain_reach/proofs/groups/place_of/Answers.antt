use Rattle.std.proofs.Common.{◌+◌, ◌-◌, ◌/◌, ◌<◌, arith}
use Rattle.chain_reach.proofs.CutFacts.{ComeFirst, CutWithin-above, CutWithin-below}
use Rattle.chain_reach.proofs.ListFacts.{ascending_at}
use Rattle.chain_reach.proofs.groups.place_of.Goals as goal

pub loop-low-preserved-then-list-middle : goal.loop-low-preserved-then-list-middle
loop-low-preserved-then-list-middle c =
    let first : ComeFirst c.args.list.now (λ x. x < c.args.n) = record { first = λ i j less low of. (let up = ascending_at c.args.list.now c.requires i j less low in omega (arith, up, of)) } in
    CutWithin-above c.args.list.now (λ x. x < c.args.n) c.loop-low.low c.loop-low.high (c.loop-low.low + (c.loop-low.high - c.loop-low.low) / 2) first c.loop-low.invariant (omega arith) (omega arith) c.if-list-middle.true

pub loop-low-preserved : goal.loop-low-preserved
loop-low-preserved c =
    let first : ComeFirst c.args.list.now (λ x. x < c.args.n) = record { first = λ i j less low of. (let up = ascending_at c.args.list.now c.requires i j less low in omega (arith, up, of)) } in
    CutWithin-below c.args.list.now (λ x. x < c.args.n) c.loop-low.low c.loop-low.high (c.loop-low.low + (c.loop-low.high - c.loop-low.low) / 2) first c.loop-low.invariant (omega arith) (omega arith) (λ less. (let no = c.if-list-middle.false in omega (arith, no, less)))

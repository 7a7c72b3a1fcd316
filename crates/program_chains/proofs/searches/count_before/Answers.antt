use Rattle.std.proofs.lemmas.Bool.{both_ways}
use Rattle.chain_reach.proofs.CutFacts.{CutWithin-above, CutWithin-below}
use Rattle.program_chains.specs.Internal.Pairs.{IsPair}
use Rattle.program_chains.proofs.searches.count_before.Goals as goal

pub loop-low-preserved-then-is_pair : goal.loop-low-preserved-then-is_pair
loop-low-preserved-then-is_pair c =
    CutWithin-above c.args.members.now (λ u. IsPair c.args.order c.args.events.now u c.args.v) c.loop-low.low c.loop-low.high c.next_place-place.result (record { first = c.requires.first })
    c.loop-low.invariant c.next_place-place.ensures.from c.next_place-place.ensures.below (c.is_pair.ensures.0 c.if-is_pair.true)

pub loop-low-preserved : goal.loop-low-preserved
loop-low-preserved c =
    CutWithin-below c.args.members.now (λ u. IsPair c.args.order c.args.events.now u c.args.v) c.loop-low.low c.loop-low.high c.next_place-place.result (record { first = c.requires.first })
    c.loop-low.invariant c.next_place-place.ensures.from c.next_place-place.ensures.below (λ pair. both_ways c.is_pair.result c.if-is_pair.false (c.is_pair.ensures.1 pair))

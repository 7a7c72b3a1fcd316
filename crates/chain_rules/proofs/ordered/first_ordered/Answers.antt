use Rattle.std.proofs.Common.{◌+◌, ◌-◌, ◌/◌, ◌<◌, length, refl, arith}
use Rattle.std.proofs.lemmas.Bool.{both_ways}
use Rattle.tso_rules.specs.Rows.{IsLater}
use Rattle.chain_rules.proofs.FirstLaterFacts.{within_below, within_above}
use Rattle.chain_rules.proofs.ordered.first_ordered.Goals as goal

pub loop-low-preserved-then-is_ordered : goal.loop-low-preserved-then-is_ordered
loop-low-preserved-then-is_ordered c =
    within_below c.args.list.now (IsLater c.args.trace.now c.args.u) c.loop-low.low c.loop-low.high (c.loop-low.low + (c.loop-low.high - c.loop-low.low) / 2) (record { rises = c.requires.rising })
    c.loop-low.invariant (omega arith) (omega arith) (c.is_ordered.ensures.0 c.if-is_ordered.true)

pub loop-low-preserved : goal.loop-low-preserved
loop-low-preserved c =
    within_above c.args.list.now (IsLater c.args.trace.now c.args.u) c.loop-low.low c.loop-low.high (c.loop-low.low + (c.loop-low.high - c.loop-low.low) / 2) (record { rises = c.requires.rising })
    c.loop-low.invariant (omega arith) (omega arith) (λ later. both_ways c.is_ordered.result c.if-is_ordered.false (c.is_ordered.ensures.1 later))

pub returns-then-low-list : goal.returns-then-low-list
returns-then-low-list c = λ k low. c.loop-low.invariant.none k (omega arith)

pub returns : goal.returns
returns c =
    let within = c.loop-low.invariant.within in
    let order = c.loop-low.invariant.order in
    let low : c.loop-low.low < length c.args.list.now = omega (arith, within, order) in
    record {
      place = c.loop-low.low;
      low = low;
      item = refl;
      later = c.loop-low.invariant.all c.loop-low.low (omega arith) low;
      none = c.loop-low.invariant.none;
    }

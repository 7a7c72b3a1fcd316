use Rattle.std.proofs.Common.{arith}
use Rattle.unit_kinds.proofs.PartialFacts.{TakesNextDrains-more, TakesNextDrains-none}
use Rattle.unit_kinds.proofs.partial.drain_times.Goals as goal

pub loop-done-init : goal.loop-done-init
loop-done-init c = record { taken = TakesNextDrains-none c.args.p c.args.parts.now c.args.history.now; room = omega arith; fewer = omega arith }

pub loop-done-preserved : goal.loop-done-preserved
loop-done-preserved c =
    let old = c.loop-done.invariant in
    record {
      taken = TakesNextDrains-more c.args.p c.loop-done._done c.args.parts.now c.loop-done.parts c.drain_next-a.new.self c.args.history.now c.loop-done.history c.push_reserved.new.self c.drain_next-a.result
          old.taken c.drain_next-a.ensures.is c.drain_next-a.ensures.drained c.push_reserved.ensures.steps c.push_reserved.ensures.first;
      room = omega (arith, old.room, c.push_reserved.ensures.room);
      fewer = omega (arith, old.fewer, c.drain_next-a.ensures.fewer);
    }

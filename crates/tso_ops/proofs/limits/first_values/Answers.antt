use Rattle.tso_ops.proofs.EntryFacts.{HasValues-next}
use Rattle.tso_ops.proofs.limits.first_values.Goals as goal

pub loop-entry-preserved : goal.loop-entry-preserved
loop-entry-preserved c =
    HasValues-next c.loop-entry.values c.insert.new.self c.args.first.now c.loop-entry.entry-index (0, 0) c.loop-entry-test.true c.loop-entry.invariant c.in_ok-insert.ensures.updates

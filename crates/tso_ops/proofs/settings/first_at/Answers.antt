use Rattle.std.proofs.Common.{◌∙◌, sym}
use Rattle.tso_ops.proofs.EntryFacts.{first_value-here, first_value-next, first_value-none}
use Rattle.tso_ops.proofs.settings.first_at.Goals as goal

pub returns-then-entry-a : goal.returns-then-entry-a
returns-then-entry-a c = sym (c.loop-entry.invariant ∙ first_value-here c.args.first.now c.loop-entry.entry-index c.args.a (0, 0) c.loop-entry-test.true c.if-entry-a.true)

pub loop-entry-preserved : goal.loop-entry-preserved
loop-entry-preserved c = c.loop-entry.invariant ∙ first_value-next c.args.first.now c.loop-entry.entry-index c.args.a (0, 0) c.loop-entry-test.true c.if-entry-a.false

pub returns : goal.returns
returns c = sym (c.loop-entry.invariant ∙ first_value-none c.args.first.now c.loop-entry.entry-index c.args.a c.loop-entry-test.false)

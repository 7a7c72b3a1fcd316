use Rattle.std.proofs.Common.{arith}
use Rattle.chain_rules.proofs.RowListFacts.{AreUpTo-none, AreUpTo-more, all_listed}
use Rattle.chain_rules.proofs.worksets.all_rows.Goals as goal

pub loop-u-init : goal.loop-u-init
loop-u-init c = AreUpTo-none c.in_ok-numbers.numbers.items c.in_ok-numbers.ensures.items

pub loop-u-preserved : goal.loop-u-preserved
loop-u-preserved c = AreUpTo-more c.loop-u.numbers.items _ c.loop-u.u c.loop-u.invariant c.in_ok-push.ensures.items

pub returns : goal.returns
returns c = all_listed c.args.trace.now c.loop-u.numbers.items c.loop-u.u c.loop-u.invariant (omega (arith, c.loop-u.auto.u-end, c.loop-u-test.false, c.events-u-end.ensures.count))

use Rattle.std.proofs.Common.{take}
use Rattle.tso_ops.specs.Events.{event_total}
use Rattle.cert_check.proofs.PairFacts.{fits_at, lists_all, lists_more, lists_of}
use Rattle.cert_check.proofs.RefusalFacts.{holds_none, holds_more, holds_all, step_faulty}
use Rattle.cert_check.proofs.checks.check_steps.Goals as goal

pub loop-k-init : goal.loop-k-init
loop-k-init c = record { hold = holds_none c.args.trace.now c.args.steps.now; pairs = c.requires.pairs }

pub step_fault-requires : goal.step_fault-requires
step_fault-requires c = lists_of (event_total c.args.trace.now) _ _ c.loop-k.invariant.pairs

pub add-requires : goal.add-requires
add-requires c =
    fits_at (event_total c.args.trace.now) c.loop-k.pairs c.args.steps.now c.loop-k.k c.index-steps-k.result c.loop-k-test.true c.index-steps-k.is c.requires.range c.loop-k.invariant.pairs

pub returns-in-Some-clause-told : goal.returns-in-Some-clause-told
returns-in-Some-clause-told c =
    step_faulty c.args.trace.now c.args.steps.now c.loop-k.k c.index-steps-k.result c.in-Some.fault c.loop-k-test.true c.index-steps-k.is c.loop-k.invariant.hold c.in-Some.ensures

pub loop-k-preserved : goal.loop-k-preserved
loop-k-preserved c = record {
  hold = holds_more c.args.trace.now c.args.steps.now c.loop-k.k c.index-steps-k.result c.loop-k-test.true c.index-steps-k.is c.in_default.ensures c.loop-k.invariant.hold;
  pairs = lists_more (event_total c.args.trace.now) c.add.new.self c.args.steps.now c.loop-k.k c.index-steps-k.result c.loop-k-test.true c.index-steps-k.is
      (c.add.ensures (event_total c.args.trace.now) (take c.loop-k.k c.args.steps.now) c.loop-k.invariant.pairs);
}

pub returns-clause-told : goal.returns-clause-told
returns-clause-told c = holds_all c.args.trace.now c.args.steps.now c.loop-k.k c.loop-k-test.false c.loop-k.invariant.hold

pub returns-clause-pairs : goal.returns-clause-pairs
returns-clause-pairs c = lists_all (event_total c.args.trace.now) c.loop-k.pairs c.args.steps.now c.loop-k.k c.loop-k-test.false c.loop-k.invariant.pairs

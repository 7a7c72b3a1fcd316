use Rattle.std.proofs.Common.{◌≡◌, ◌∙◌, length, ap, arith}
use Rattle.tso_ops.specs.Events.{event_total}
use Rattle.round_pool.proofs.WorksetFacts.{all_workset, numbers_more}
use Rattle.round_pool.proofs.worksets.all_rows.Goals as goal

pub loop-u-init : goal.loop-u-init
loop-u-init c = (ap length c.in_ok-numbers.ensures.items, λ k low. absurd (omega (arith, low)))

pub loop-u-preserved : goal.loop-u-preserved
loop-u-preserved c = numbers_more c.loop-u.numbers.items _ c.loop-u.u c.loop-u.invariant.0 c.loop-u.invariant.1 c.in_ok-push.ensures.items

pub returns : goal.returns
returns c =
    let all : c.loop-u.u ≡ event_total c.args.trace.now = omega (arith, c.loop-u.auto.u-end, c.loop-u-test.false, c.events-u-end.ensures.count) in
    all_workset c.args.trace.now c.loop-u.numbers.items (c.loop-u.invariant.0 ∙ all) (λ k low. c.loop-u.invariant.1 k (omega (arith, low, all)))

use Rattle.std.proofs.Common.{◌≡◌, ◌<◌, suc, arith}
use Rattle.tso_ops.specs.Events.{event_total, IsEvent}
use Rattle.tso_ops.proofs.NumberFacts.{IsEvent-within}
use Rattle.bitsets.proofs.MarkFacts.{steps_more, steps_all, marks_as}
use Rattle.tso_rules.proofs.OptionFacts.{some_as_one}
use Rattle.tso_rules.proofs.base.mark_events.Goals as goal

pub loop-n-preserved : goal.loop-n-preserved
loop-n-preserved c =
    steps_more c.args.marks.now.items c.loop-n.marks.items c.mark_if_some.new.marks.items c.loop-n.n (λ n v. (v ≡ n) × IsEvent c.args.trace.now n) c.loop-n.invariant
    (marks_as c.loop-n.marks.items c.mark_if_some.new.marks.items _ _ c.in_ok-mark_if_some.ensures
    (some_as_one c.event_end.result c.loop-n.n (IsEvent c.args.trace.now) c.event_end.ensures.is c.event_end.ensures.all))

pub returns : goal.returns
returns c =
    marks_as c.args.marks.now.items c.loop-n.marks.items (IsEvent c.args.trace.now) _
    (steps_all c.args.marks.now.items c.loop-n.marks.items c.loop-n.n (IsEvent c.args.trace.now) c.loop-n.invariant
    (λ v event. let low : v < suc (event_total c.args.trace.now) = IsEvent-within c.args.trace.now v event in omega (arith, low, c.loop-n-test.false, c.node_count-n-end.ensures.count)))
    (λ v. (λ event. (omega (arith, c.if-u-ne0.false), event), λ pair. pair.1))

use Rattle.std.proofs.Common.{arith}
use Rattle.tso_ops.proofs.EventFacts.{event_total-most}
use Rattle.order_check.proofs.ProgressFacts.{passed_none}
use Rattle.order_check.proofs.progress.Progress.new.Goals as goal

pub numbers_to-requires : goal.numbers_to-requires
numbers_to-requires c = omega (arith, c.events.ensures.count, event_total-most c.args.trace.now c.events.ensures.kept)

pub returns : goal.returns
returns c = λ order places.
    passed_none c.args.trace.now order _ c.events.result c.events.ensures.kept places c.events.ensures.count c.in_ok-left.ensures (c.in_ok-last.ensures.items_if_clones_equal (λ y e. e))

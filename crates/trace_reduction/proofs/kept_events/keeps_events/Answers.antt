use Rattle.std.proofs.Common.{arith}
use Rattle.log_selections.specs.Cuts.{origin_in}
use Rattle.trace_reduction.specs.Internal.Checking.{KeepsEvent}
use Rattle.trace_reduction.proofs.SelectionFacts.{event-within, events-next, no_event-zero}
use Rattle.trace_reduction.proofs.kept_events.keeps_events.Goals as goal

pub loop-k-init : goal.loop-k-init
loop-k-init c n event within = absurd (no_event-zero c.args.small.now n event within)

pub loop-k-preserved : goal.loop-k-preserved
loop-k-preserved c =
    events-next c.args.small.now (KeepsEvent c.args.trace.now c.args.small.now (origin_in c.args.origins.now)) c.loop-k.k c.loop-k.invariant (c.keeps_event.ensures c.if-not-keeps_event.false)

pub returns : goal.returns
returns c told n event = c.loop-k.invariant n event (omega (arith, event-within c.args.small.now n event, c.events-k-end.ensures.count, c.loop-k-test.false))

use Rattle.std.proofs.Common.{arith}
use Rattle.log_selections.specs.Cuts.{origin_in}
use Rattle.trace_reduction.specs.Internal.Checking.{KeepsPair}
use Rattle.trace_reduction.proofs.SelectionFacts.{event-within, events-next, no_event-zero}
use Rattle.trace_reduction.proofs.kept_pairs.keeps_pairs_of.Goals as goal

pub loop-k-init : goal.loop-k-init
loop-k-init c n event within = absurd (no_event-zero c.args.small.now n event within)

pub loop-k-preserved : goal.loop-k-preserved
loop-k-preserved c =
    events-next c.args.small.now (KeepsPair c.args.trace.now c.args.small.now (origin_in c.args.origins.now) c.args.u) c.loop-k.k c.loop-k.invariant (c.keeps_pair.ensures c.if-not-keeps_pair.false)

pub returns : goal.returns
returns c told n event = c.loop-k.invariant n event (omega (arith, event-within c.args.small.now n event, c.events-k-end.ensures.count, c.loop-k-test.false))

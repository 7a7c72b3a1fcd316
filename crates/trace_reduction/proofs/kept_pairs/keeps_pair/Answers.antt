use Rattle.trace_reduction.proofs.SelectionFacts.{pair_kept}
use Rattle.trace_reduction.proofs.kept_pairs.keeps_pair.Goals as goal

pub returns : goal.returns
returns c told =
    pair_kept c.args.trace.now c.args.small.now c.args.origins.now c.args.pair.u c.args.pair.v c.origin_of.result c.origin_of-2.result c.origin_of.ensures c.origin_of-2.ensures
    (c.keeps_apart.ensures c.if-not-keeps_apart.false) (c.keeps_order.ensures c.if-not-keeps_order.false) (c.keeps_addresses.ensures c.if-not-keeps_addresses.false)
    (c.keeps_barriers.ensures.barriers told) (c.keeps_barriers.ensures.stbars told)

use Rattle.std.proofs.Common.{◌∙◌, sym}
use Rattle.trace_reduction.proofs.SelectionFacts.{checked}
use Rattle.trace_reduction.proofs.selections.is_selection.Goals as goal

pub returns : goal.returns
returns c told =
    checked c.args.trace.now c.args.small.now c.args.origins.now c.processors-processors.ensures.kept (sym c.order.ensures ∙ c.is_same.ensures c.if-not-is_same.false ∙ c.order-2.ensures)
    (c.keeps_events.ensures c.if-not-keeps_events.false) (c.keeps_pairs.ensures told)

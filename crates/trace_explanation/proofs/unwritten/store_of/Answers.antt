use Rattle.std.proofs.Common.{◌∙◌, sym, arith}
use Rattle.std.specs.Prelude.{◌==◌}
use Rattle.tso_ops.specs.Events.{event_total}
use Rattle.trace_explanation.specs.Names.{is_store_where}
use Rattle.trace_explanation.proofs.SearchFacts.{fails-more, found-next, found-none}
use Rattle.trace_explanation.proofs.unwritten.store_of.Goals as goal

pub loop-m-init : goal.loop-m-init
loop-m-init c j above within = absurd (omega arith)

pub loop-m-preserved : goal.loop-m-preserved
loop-m-preserved c = fails-more (is_store_where c.args.trace.now (λ s. s.value == c.args.value)) c.loop-m.m c.loop-m.invariant (sym c.stores_value.ensures ∙ c.if-stores_value.false)

pub returns-then-stores_value : goal.returns-then-stores_value
returns-then-stores_value c =
    let t = c.args.trace.now in
    sym (found-next (is_store_where t (λ s. s.value == c.args.value)) c.loop-m.m (event_total t) c.loop-m.invariant (sym c.stores_value.ensures ∙ c.if-stores_value.true) (omega (arith, c.loop-m-test.true, c.events-m-end.ensures.count)))

pub returns : goal.returns
returns c =
    let t = c.args.trace.now in
    sym (found-none (is_store_where t (λ s. s.value == c.args.value)) (event_total t) (λ j above within. c.loop-m.invariant j above (omega (arith, c.loop-m-test.false, c.events-m-end.ensures.count))))

use Rattle.std.proofs.Common.{◌≡◌, false, subst, ◌∙◌}
use Rattle.acyclic_traces.specs.Internal.Pairs.{HasAllPairs, IsStrictOrder}
use Rattle.acyclic_traces.proofs.ClosedFacts.{no_cycle}
use Rattle.acyclic_traces.proofs.showing.is_shown_acyclic.Goals as goal

pub returns-then-has_all : goal.returns-then-has_all
returns-then-has_all c = λ strict.
    let nothing : c.add_by_events.result ≡ false = c.if-not-add_by_events.true in
    let same : c.add_by_events.new.pairs ≡ c.loop.pairs = c.add_by_events.ensures.same nothing in
    let order = c.put_order.new.rows in
    no_cycle c.args.trace.now c.loop.pairs order c.put_order.ensures.order (subst (λ rows. HasAllPairs rows order) (c.rows.ensures.value ∙ same) (c.has_all.ensures c.if-has_all.true))
    (subst IsStrictOrder (c.rows-then-has_all.ensures.value ∙ same) (c.is_strict_order.ensures strict)) (c.add_by_events.ensures.reads nothing) (c.add_by_events.ensures.swaps nothing)

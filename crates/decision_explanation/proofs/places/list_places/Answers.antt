use Rattle.std.proofs.Common.{◌∙◌, ◌-◌, length, suc, refl, arith}
use Rattle.std.proofs.lemmas.List.{get_or-replicate, length-replicate}
use Rattle.tso_ops.specs.Events.{event_total}
use Rattle.decision_explanation.proofs.PlaceFacts.{places_end, places_start, places_step}
use Rattle.decision_explanation.proofs.places.list_places.Goals as goal

pub loop-done-init : goal.loop-done-init
loop-done-init c =
    let order = c.args.order.now in
    let count = c.node_count.ensures.count in
    let is = c.in_ok-places.ensures.items_if_clones_equal (λ y e. e) in
    places_start order (suc (event_total c.args.trace.now)) c.in_ok-places.places.items (rw is (length-replicate c.node_count.result (length order) ∙ count))
    (λ n within. rw is (get_or-replicate c.node_count.result n (length order) 0 (omega (arith, within, count))))

pub loop-done-preserved : goal.loop-done-preserved
loop-done-preserved c =
    let order = c.args.order.now in
    let k = length order - 1 - c.loop-done.done in
    places_step order c.loop-done.done k _ _ c.loop-done.places.items c.enter.new.places.items c.loop-done-test.true refl refl c.loop-done.invariant c.enter.ensures.length c.enter.ensures.entered

pub returns : goal.returns
returns c = places_end c.args.order.now (length c.args.order.now - c.loop-done.done) _ _ (omega arith) c.loop-done.invariant

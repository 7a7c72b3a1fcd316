use Rattle.std.proofs.Common.{◌≡◌, Some, sym, ◌∙◌, arith}
use Rattle.tso_ops.specs.Events.{event_at}
use Rattle.tso_ops.proofs.NumberFacts.{IsEvent-within}
use Rattle.chain_rules.proofs.TraceBounds.{slot_below, slots-most}
use Rattle.chain_rules.proofs.tables.access_slot.Goals as goal

pub overflow_mul-result : goal.overflow_mul-result
overflow_mul-result c =
    let t = c.args.trace.now in
    let at : event_at t c.args.n ≡ Some c.in_ok-event.event = sym c.event.ensures ∙ c.in_ok-event.was in
    let low = slot_below t c.args.addresses c.args.n c.in_ok-event.event c.requires (IsEvent-within t c.args.n (c.in_ok-event.event, at)) at in
    let most = slots-most t c.args.addresses c.events-kept.ensures.kept c.requires in
    omega (arith, low, most)

pub overflow_add-result : goal.overflow_add-result
overflow_add-result c =
    let t = c.args.trace.now in
    let at : event_at t c.args.n ≡ Some c.in_ok-event.event = sym c.event.ensures ∙ c.in_ok-event.was in
    let low = slot_below t c.args.addresses c.args.n c.in_ok-event.event c.requires (IsEvent-within t c.args.n (c.in_ok-event.event, at)) at in
    let most = slots-most t c.args.addresses c.events-kept.ensures.kept c.requires in
    omega (arith, low, most)

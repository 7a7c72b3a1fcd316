use Rattle.std.proofs.Common.{◌+◌, ◌*◌, ◌<◌, [], ◌∷◌, ◌++◌, IfSome, sym, subst, ap, ◌∙◌, arith}
use Rattle.std.specs.Option.{unwrap_or}
use Rattle.tso_ops.proofs.EventFacts.{event_total-most}
use Rattle.chain_rules.specs.Internal.Accesses.{AreKeys, HasSlot}
use Rattle.chain_rules.proofs.TraceBounds.{slots-most}
use Rattle.chain_rules.proofs.TableFacts.{keys_below, more_keys, key_found, found_below, slots_below, accesses_are}
use Rattle.chain_rules.proofs.tables.accesses.Goals as goal

pub overflow_mul-others : goal.overflow_mul-others
overflow_mul-others c =
    let most = slots-most c.args.trace.now c.args.addresses c.processors.ensures.kept c.requires in
    let count = ap (λ k. k * c.args.addresses) c.processors.ensures.count in
    omega (arith, most, count)

pub overflow_cast-slot : goal.overflow_cast-slot
overflow_cast-slot c =
    let t = c.args.trace.now in
    let most = slots-most t c.args.addresses c.processors.ensures.kept c.requires in
    let below =
    slots_below t c.args.addresses c.args.loads c.loop-n.n c.access_slot.result c.requires (omega (arith, c.loop-n-test.true, c.node_count-n-end.ensures.count)) c.access_slot.ensures in
    let count = ap (λ k. k * c.args.addresses) c.processors.ensures.count in
    let low = found_below c.access_slot.result (c.processors.result * c.args.addresses)
    (subst (λ k. IfSome c.access_slot.result (λ s. s < k)) (sym count) below) in
    omega (arith, most, low, count, c.unwrap_or-slot.ensures)

pub loop-n-preserved : goal.loop-n-preserved
loop-n-preserved c =
    let t = c.args.trace.now in
    let others = c.processors.result * c.args.addresses in
    let below =
    slots_below t c.args.addresses c.args.loads c.loop-n.n c.access_slot.result c.requires (omega (arith, c.loop-n-test.true, c.node_count-n-end.ensures.count)) c.access_slot.ensures in
    let count = ap (λ k. k * c.args.addresses) c.processors.ensures.count in
    let low = found_below c.access_slot.result others (subst (λ k. IfSome c.access_slot.result (λ s. s < k)) (sym count) below) in
    subst (λ xs. AreKeys xs (HasSlot t c.args.addresses c.args.loads) others (c.loop-n.n + 1))
    (sym (c.in_ok-push.ensures.items ∙ ap (λ k. c.loop-n.keys.items ++ k ∷ []) c.unwrap_or-slot.ensures))
    (more_keys c.loop-n.keys.items (HasSlot t c.args.addresses c.args.loads) others c.loop-n.n (unwrap_or c.access_slot.result others) c.loop-n.invariant low
    (key_found c.access_slot.result (HasSlot t c.args.addresses c.args.loads c.loop-n.n) others c.access_slot.ensures))

pub overflow_add-others : goal.overflow_add-others
overflow_add-others c =
    let most = slots-most c.args.trace.now c.args.addresses c.processors.ensures.kept c.requires in
    let count = ap (λ k. k * c.args.addresses) c.processors.ensures.count in
    omega (arith, most, count)

pub of_keys-requires-clause-most : goal.of_keys-requires-clause-most
of_keys-requires-clause-most c =
    let sized = c.loop-n.invariant.sized in
    let most = event_total-most c.args.trace.now c.node_count.ensures.kept in
    omega (arith, sized, most, c.loop-n.auto.n-end, c.node_count-n-end.ensures.count)

pub of_keys-requires-clause-within : goal.of_keys-requires-clause-within
of_keys-requires-clause-within c = keys_below c.loop-n.keys.items c.loop-n.n (c.processors.result * c.args.addresses + 1) c.loop-n.invariant.sized c.loop-n.invariant.within

pub returns : goal.returns
returns c =
    accesses_are c.args.trace.now c.args.addresses c.args.loads c.in_ok-of_keys.field-0 c.loop-n.keys.items c.loop-n.n (c.processors.result * c.args.addresses) c.requires
    (ap (λ k. k * c.args.addresses) c.processors.ensures.count) (omega (arith, c.loop-n-test.false, c.loop-n.auto.n-end, c.node_count-n-end.ensures.count)) c.loop-n.invariant
    c.in_ok-of_keys.ensures.nodes c.in_ok-of_keys.ensures.keys c.in_ok-of_keys.ensures.count

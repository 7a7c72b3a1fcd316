use Rattle.std.proofs.Common.{◌≡◌, ◌∙◌, ◌<◌, sym, subst, ap}
use Rattle.chain_reach.specs.declared.types.Groups.{Groups}
use Rattle.chain_reach.specs.Groups.{node_count, group_of}
use Rattle.chain_rules.specs.Internal.Lowering.{LowersAt}
use Rattle.chain_rules.proofs.ListedFacts.{listed_none, listed_first}
use Rattle.chain_rules.proofs.RuleFacts.{ready_small, leads_from, stores_fit, ends_within, store_past_empty, store_past_none, store_past_known, store_past_lowers}
use Rattle.chain_rules.proofs.rules.store_past_of.Goals as goal

pub list-requires : goal.list-requires
list-requires c = stores_fit c.args.input.trace.now c.args.input.tables.now c.args.input.reach.now c.args.u c.args.s c.args.p c.args.a c.slot-slot.result
    (record { ready = c.requires.ready; load = c.requires.load; source = c.requires.source; processor = c.requires.processor; at = c.slot-slot.ensures })

pub returns-in_default : goal.returns-in_default
returns-in_default c = store_past_empty c.args.input.trace.now c.args.input.tables.now c.args.input.reach.now c.args.u c.args.s c.args.p c.args.a c.slot-slot.result c.args.least.now
    (record { ready = c.requires.ready; load = c.requires.load; source = c.requires.source; processor = c.requires.processor; at = c.slot-slot.ensures }) (listed_none c.list.result.now _ c.list.ensures c.in_default.ensures.value)

pub group-chain-requires : goal.group-chain-requires
group-chain-requires c =
    let any = listed_first c.list.result.now _ c.in-Some.any.now c.list.ensures c.in-Some.ensures.value in
    subst (λ g. c.in-Some.any.now < node_count g) (sym c.chains.ensures.chains) (ends_within c.args.input.trace.now c.args.input.tables.now c.args.input.reach.now c.args.u c.args.s c.args.p c.args.a c.slot-slot.result c.in-Some.any.now
    (record { ready = c.requires.ready; load = c.requires.load; source = c.requires.source; processor = c.requires.processor; at = c.slot-slot.ensures }) any).0

pub first_led-from-requires-clause-from : goal.first_led-from-requires-clause-from
first_led-from-requires-clause-from c =
    let any = listed_first c.list.result.now _ c.in-Some.any.now c.list.ensures c.in-Some.ensures.value in
    (ends_within c.args.input.trace.now c.args.input.tables.now c.args.input.reach.now c.args.u c.args.s c.args.p c.args.a c.slot-slot.result c.in-Some.any.now
    (record { ready = c.requires.ready; load = c.requires.load; source = c.requires.source; processor = c.requires.processor; at = c.slot-slot.ensures }) any).2

pub first_led-requires-clause-from : goal.first_led-requires-clause-from
first_led-requires-clause-from c =
    let any = listed_first c.list.result.now _ c.in-Some.any.now c.list.ensures c.in-Some.ensures.value in
    (ends_within c.args.input.trace.now c.args.input.tables.now c.args.input.reach.now c.args.u c.args.s c.args.p c.args.a c.slot-slot.result c.in-Some.any.now
    (record { ready = c.requires.ready; load = c.requires.load; source = c.requires.source; processor = c.requires.processor; at = c.slot-slot.ensures }) any).1

pub returns-then-from-first_led : goal.returns-then-from-first_led
returns-then-from-first_led c =
    let any = listed_first c.list.result.now _ c.in-Some.any.now c.list.ensures c.in-Some.ensures.value in
    let leads = leads_from c.args.input.reach.now c.args.s c.in-Some.any.now c.group-chain.result c.first_led-from.result c.chains.result.now c.group-chain.ensures.group c.chains.ensures.chains c.first_led-from.ensures in
    let knows = leads_from c.args.input.reach.now c.args.u c.in-Some.any.now c.group-chain.result c.first_led.result c.chains.result.now c.group-chain.ensures.group c.chains.ensures.chains c.first_led.ensures in
    store_past_known c.args.input.trace.now c.args.input.tables.now c.args.input.reach.now c.args.u c.args.s c.args.p c.args.a c.slot-slot.result c.in-Some.any.now c.first_led-from.result c.first_led.result c.args.least.now
    (record { ready = c.requires.ready; load = c.requires.load; source = c.requires.source; processor = c.requires.processor; at = c.slot-slot.ensures }) any leads knows c.if-from-first_led.true

pub first_from-requires : goal.first_from-requires
first_from-requires c = stores_fit c.args.input.trace.now c.args.input.tables.now c.args.input.reach.now c.args.u c.args.s c.args.p c.args.a c.slot-slot.result
    (record { ready = c.requires.ready; load = c.requires.load; source = c.requires.source; processor = c.requires.processor; at = c.slot-slot.ensures })

pub lower-requires-clause-small : goal.lower-requires-clause-small
lower-requires-clause-small c =
    let within = ends_within c.args.input.trace.now c.args.input.tables.now c.args.input.reach.now c.args.u c.args.s c.args.p c.args.a c.slot-slot.result c.in-Some-first_from.v
    (record { ready = c.requires.ready; load = c.requires.load; source = c.requires.source; processor = c.requires.processor; at = c.slot-slot.ensures }) c.in-Some-first_from.ensures.inside in
    ready_small c.args.input.trace.now c.args.input.tables.now c.args.input.reach.now c.in-Some-first_from.v c.requires.ready within.0

pub returns-in-Some-first_from : goal.returns-in-Some-first_from
returns-in-Some-first_from c =
    let any = listed_first c.list.result.now _ c.in-Some.any.now c.list.ensures c.in-Some.ensures.value in
    let leads = leads_from c.args.input.reach.now c.args.s c.in-Some.any.now c.group-chain.result c.first_led-from.result c.chains.result.now c.group-chain.ensures.group c.chains.ensures.chains c.first_led-from.ensures in
    let chain : c.group-chain.result ≡ group_of c.args.input.reach.now.chains c.in-Some.any.now = c.group-chain.ensures.group ∙ ap (λ (g : Groups). group_of g c.in-Some.any.now) c.chains.ensures.chains in
    store_past_lowers c.args.input.trace.now c.args.input.tables.now c.args.input.reach.now c.args.u c.args.s c.args.p c.args.a c.slot-slot.result c.in-Some.any.now c.first_led-from.result c.in-Some-first_from.v c.args.least.now c.lower.new.least
    (record { ready = c.requires.ready; load = c.requires.load; source = c.requires.source; processor = c.requires.processor; at = c.slot-slot.ensures }) any leads c.in-Some-first_from.ensures (subst (λ d. LowersAt c.args.least.now c.lower.new.least d c.in-Some-first_from.v) chain c.lower.ensures)

pub returns-in_default-first_from : goal.returns-in_default-first_from
returns-in_default-first_from c =
    let any = listed_first c.list.result.now _ c.in-Some.any.now c.list.ensures c.in-Some.ensures.value in
    let leads = leads_from c.args.input.reach.now c.args.s c.in-Some.any.now c.group-chain.result c.first_led-from.result c.chains.result.now c.group-chain.ensures.group c.chains.ensures.chains c.first_led-from.ensures in
    store_past_none c.args.input.trace.now c.args.input.tables.now c.args.input.reach.now c.args.u c.args.s c.args.p c.args.a c.slot-slot.result c.in-Some.any.now c.first_led-from.result c.args.least.now
    (record { ready = c.requires.ready; load = c.requires.load; source = c.requires.source; processor = c.requires.processor; at = c.slot-slot.ensures }) any leads c.in_default-first_from.ensures

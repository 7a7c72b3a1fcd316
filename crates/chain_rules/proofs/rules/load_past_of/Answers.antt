use Rattle.std.proofs.Common.{◌≡◌, ◌∙◌, ◌*◌, ◌<◌, length, arith, sym, subst, ap}
use Rattle.chain_reach.specs.declared.types.Groups.{Groups}
use Rattle.chain_reach.specs.Groups.{node_count, count_of}
use Rattle.chain_rules.proofs.ListedFacts.{listed_none, listed_first}
use Rattle.chain_rules.proofs.RuleFacts.{leads_from, loads_fit, any_within, row_within, load_past_empty, load_past_none, load_past_lowers}
use Rattle.chain_rules.proofs.rules.load_past_of.Goals as goal

pub list-requires : goal.list-requires
list-requires c = loads_fit c.args.input.trace.now c.args.input.tables.now c.args.input.reach.now c.args.u c.args.p c.args.a c.slot-slot.result
    (record { ready = c.requires.ready; store = c.requires.store; processor = c.requires.processor; at = c.slot-slot.ensures })

pub returns-in_default : goal.returns-in_default
returns-in_default c = load_past_empty c.args.input.trace.now c.args.input.tables.now c.args.input.reach.now c.args.u c.args.p c.args.a c.slot-slot.result c.args.least.now
    (record { ready = c.requires.ready; store = c.requires.store; processor = c.requires.processor; at = c.slot-slot.ensures }) (listed_none c.list.result.now _ c.list.ensures c.in_default.ensures.value)

pub group-chain-requires : goal.group-chain-requires
group-chain-requires c =
    let any = listed_first c.list.result.now _ c.in-Some.any.now c.list.ensures c.in-Some.ensures.value in
    subst (λ g. c.in-Some.any.now < node_count g) (sym c.chains.ensures.chains) (any_within c.args.input.trace.now c.args.input.tables.now c.args.input.reach.now c.args.u c.args.p c.args.a c.slot-slot.result c.in-Some.any.now
    (record { ready = c.requires.ready; store = c.requires.store; processor = c.requires.processor; at = c.slot-slot.ensures }) any).0

pub first_led-requires-clause-from : goal.first_led-requires-clause-from
first_led-requires-clause-from c =
    let any = listed_first c.list.result.now _ c.in-Some.any.now c.list.ensures c.in-Some.ensures.value in
    (any_within c.args.input.trace.now c.args.input.tables.now c.args.input.reach.now c.args.u c.args.p c.args.a c.slot-slot.result c.in-Some.any.now
    (record { ready = c.requires.ready; store = c.requires.store; processor = c.requires.processor; at = c.slot-slot.ensures }) any).1

pub first_from-requires : goal.first_from-requires
first_from-requires c = loads_fit c.args.input.trace.now c.args.input.tables.now c.args.input.reach.now c.args.u c.args.p c.args.a c.slot-slot.result
    (record { ready = c.requires.ready; store = c.requires.store; processor = c.requires.processor; at = c.slot-slot.ensures })

pub overflow_mul-l : goal.overflow_mul-l
overflow_mul-l c =
    let wide : c.count-count.result ≡ count_of c.args.input.reach.now.chains = c.count-count.ensures ∙ ap (λ (g : Groups). count_of g) c.chains-in-Some-first_from.ensures.chains in
    let row = row_within c.args.input.trace.now c.args.input.tables.now c.args.input.reach.now c.args.u c.args.p c.args.a c.slot-slot.result c.in-Some-first_from.l
    (record { ready = c.requires.ready; store = c.requires.store; processor = c.requires.processor; at = c.slot-slot.ensures }) c.in-Some-first_from.ensures.inside in
    let table : length c.deref.result.now ≡ length c.args.input.tables.now.least.items = ap length c.deref.ensures.value in
    let small = c.deref.type_inv.0 in
    omega (arith, small, table, row, ap (λ n. c.in-Some-first_from.l * n) wide)

pub lower_by_row-requires : goal.lower_by_row-requires
lower_by_row-requires c =
    let wide : c.count-count.result ≡ count_of c.args.input.reach.now.chains = c.count-count.ensures ∙ ap (λ (g : Groups). count_of g) c.chains-in-Some-first_from.ensures.chains in
    let row = row_within c.args.input.trace.now c.args.input.tables.now c.args.input.reach.now c.args.u c.args.p c.args.a c.slot-slot.result c.in-Some-first_from.l
    (record { ready = c.requires.ready; store = c.requires.store; processor = c.requires.processor; at = c.slot-slot.ensures }) c.in-Some-first_from.ensures.inside in
    let table : length c.deref.result.now ≡ length c.args.input.tables.now.least.items = ap length c.deref.ensures.value in
    let size = c.requires.sized in
    record { row = omega (arith, table, row, size, ap (λ n. c.in-Some-first_from.l * n) wide) }

pub returns-in-Some-first_from : goal.returns-in-Some-first_from
returns-in-Some-first_from c =
    let any = listed_first c.list.result.now _ c.in-Some.any.now c.list.ensures c.in-Some.ensures.value in
    let leads = leads_from c.args.input.reach.now c.args.u c.in-Some.any.now c.group-chain.result c.first_led.result c.chains.result.now c.group-chain.ensures.group c.chains.ensures.chains c.first_led.ensures in
    let wide : c.count-count.result ≡ count_of c.args.input.reach.now.chains = c.count-count.ensures ∙ ap (λ (g : Groups). count_of g) c.chains-in-Some-first_from.ensures.chains in
    load_past_lowers c.args.input.trace.now c.args.input.tables.now c.args.input.reach.now c.args.u c.args.p c.args.a c.slot-slot.result c.in-Some.any.now c.first_led.result c.in-Some-first_from.l c.args.least.now c.lower_by_row.new.least
    (record { ready = c.requires.ready; store = c.requires.store; processor = c.requires.processor; at = c.slot-slot.ensures }) any leads c.in-Some-first_from.ensures c.requires.sized c.lower_by_row.ensures.sized c.deref.result.now c.count-count.result c.deref.ensures.value wide c.lower_by_row.ensures.lowered

pub returns-in_default-first_from : goal.returns-in_default-first_from
returns-in_default-first_from c =
    let any = listed_first c.list.result.now _ c.in-Some.any.now c.list.ensures c.in-Some.ensures.value in
    let leads = leads_from c.args.input.reach.now c.args.u c.in-Some.any.now c.group-chain.result c.first_led.result c.chains.result.now c.group-chain.ensures.group c.chains.ensures.chains c.first_led.ensures in
    load_past_none c.args.input.trace.now c.args.input.tables.now c.args.input.reach.now c.args.u c.args.p c.args.a c.slot-slot.result c.in-Some.any.now c.first_led.result c.args.least.now
    (record { ready = c.requires.ready; store = c.requires.store; processor = c.requires.processor; at = c.slot-slot.ensures }) any leads c.in_default-first_from.ensures

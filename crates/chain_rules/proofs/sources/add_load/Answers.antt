use Rattle.std.proofs.Common.{◌≡◌, true, sym, subst, ◌∙◌, arith}
use Rattle.std.proofs.lemmas.Bool.{not-false, not-true, false≢true}
use Rattle.tso_ops.specs.declared.events.Event.{Event}
use Rattle.tso_ops.proofs.NumberFacts.{event_unique}
use Rattle.chain_rules.proofs.SourceFacts.{next_load_is, next_within, least_past, least_more}
use Rattle.chain_rules.proofs.TraceBounds.{slot_below, slots-most}
use Rattle.chain_rules.proofs.sources.add_load.Goals as goal

pub overflow_mul-event : goal.overflow_mul-event
overflow_mul-event c =
    let t = c.args.trace.now in
    let low = slot_below t c.args.addresses c.args.l c.in-Some.event c.requires.addresses c.requires.within (sym c.in-Some.ensures) in
    let most = slots-most t c.args.addresses c.events-kept.ensures.kept c.requires.addresses in
    omega (arith, low, most)

pub overflow_add-event : goal.overflow_add-event
overflow_add-event c =
    let t = c.args.trace.now in
    let low = slot_below t c.args.addresses c.args.l c.in-Some.event c.requires.addresses c.requires.within (sym c.in-Some.ensures) in
    let most = slots-most t c.args.addresses c.events-kept.ensures.kept c.requires.addresses in
    omega (arith, low, most)

pub first_from-next-requires : goal.first_from-next-requires
first_from-next-requires c =
    let low = slot_below c.args.trace.now c.args.addresses c.args.l c.in-Some.event c.requires.addresses c.requires.within (sym c.in-Some.ensures) in
    let slots = c.requires.loads.slots in
    omega (arith, low, slots)

pub copy_row-requires-clause-from : goal.copy_row-requires-clause-from
copy_row-requires-clause-from c =
    let t = c.args.trace.now in
    next_within t c.args.chains.now c.args.least.now c.args.l c.count.result c.first_from-next.result c.count.ensures c.requires.later
    (next_load_is t c.args.loads.now c.args.addresses c.args.l c.in-Some.event c.first_from-next.result c.requires.addresses c.requires.loads c.requires.within (sym c.in-Some.ensures)
    c.first_from-next.ensures)

pub returns-then-not-event : goal.returns-then-not-event
returns-then-not-event c =
    least_past c.args.trace.now c.args.chains.now c.args.least.now c.args.l c.requires.later (λ load.
    let same = event_unique c.args.trace.now c.args.l load.0 c.in-Some.event load.1 (sym c.in-Some.ensures) in
    let is : c.in-Some.event.load ≡ true = subst (λ (e : Event). e.load ≡ true) same load.2 in
    false≢true (sym (not-true c.in-Some.event.load c.if-not-event.true) ∙ is))

pub returns : goal.returns
returns c =
    let t = c.args.trace.now in
    let g = c.args.chains.now in
    let kept = rw c.count.ensures at c.copy_row.ensures.kept in
    let row = rw c.count.ensures at c.copy_row.ensures.row in
    least_more t g c.args.least.now c.copy_row.new.table c.add_source.new.least c.args.l c.first_from-next.result c.requires.later (c.in-Some.event, sym c.in-Some.ensures, not-false c.in-Some.event.load c.if-not-event.false)
    (next_load_is t c.args.loads.now c.args.addresses c.args.l c.in-Some.event c.first_from-next.result c.requires.addresses c.requires.loads c.requires.within (sym c.in-Some.ensures)
    c.first_from-next.ensures)
    kept row c.add_source.ensures.kept c.add_source.ensures.row

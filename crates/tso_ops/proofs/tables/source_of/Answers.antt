use Rattle.std.proofs.Common.{◌≡◌, ◌∙◌, ap, sym, subst, length, None}
use Rattle.std.specs.Ordering.{nat_cmp}
use Rattle.std.specs.Option.{option_copied}
use Rattle.std.specs.BTreeMap.{get}
use Rattle.tso_ops.specs.Internal.Tables.{FindsStore}
use Rattle.tso_ops.proofs.TableFacts.{row_found, row_elsewhere, row_missing, unlike_first}
use Rattle.tso_ops.proofs.tables.source_of.Goals as goal

pub returns-in-Some : goal.returns-in-Some
returns-in-Some c t l trace first is at =
    row_found t l c.args.events.now c.args.event _ c.in-Some.n.now is at c.if-not-event.false
    (subst (FindsStore c.args.events.now (length c.args.events.now) c.args.event.value) (sym c.in-Some.ensures.value) (c.requires c.args.event.value))
    c.if-events-n.true

pub returns-in_default : goal.returns-in_default
returns-in_default c t l trace first is at =
    row_elsewhere t l c.args.events.now c.args.event _ c.in-Some.n.now trace is at c.if-not-event.false (unlike_first t c.args.first.now c.args.event first _ c.first_at.ensures c.if-event-first_at.false)
    (subst (FindsStore c.args.events.now (length c.args.events.now) c.args.event.value) (sym c.in-Some.ensures.value) (c.requires c.args.event.value))
    c.if-events-n.false

pub returns-in_default-2 : goal.returns-in_default-2
returns-in_default-2 c t l trace first is at =
    let looked_up : get nat_cmp c.args.stores.now c.args.event.value ≡ None = sym c.get.ensures.value ∙ ap option_copied c.in_default.is in
    row_missing t l c.args.events.now c.args.event is at c.if-not-event.false (unlike_first t c.args.first.now c.args.event first _ c.first_at.ensures c.if-event-first_at.false)
    (subst (FindsStore c.args.events.now (length c.args.events.now) c.args.event.value) looked_up (c.requires c.args.event.value))

use Rattle.std.proofs.Common.{inl, inr, ◌<◌, ◌≤◌, refl, sym, ◌∙◌, subst, arith}
use Rattle.tso_ops.proofs.NumberFacts.{HasSource-within}
use Rattle.tso_cert.specs.declared.rules.BaseRule.TheVariants.{Own}
use Rattle.chain_reach.specs.Groups.{count_of, IsIn, IsLastBefore}
use Rattle.chain_reach.specs.Leading.{Leads}
use Rattle.chain_rules.specs.Internal.Tables.{slot_of}
use Rattle.chain_rules.proofs.BaseReachFacts.{HasSlot, slot_low, own_inside, inside_own, own_before, grows_join}
use Rattle.chain_rules.proofs.TableFacts.{tables_keep}
use Rattle.chain_rules.proofs.base.join_before.Goals as goal

pub slot-slot-requires : goal.slot-slot-requires
slot-slot-requires c =
    let has : HasSlot c.args.trace.now c.args.reach.now.chains c.args.tables.now c.args.l c.args.s c.in-Some.event =
    record { chains = c.requires.chains; tables_are = tables_keep c.args.trace.now c.args.reach.now.chains c.args.tables.now c.requires.tables; at = sym c.in-Some.ensures; source = c.requires.source } in
    let low = slot_low c.args.trace.now c.args.reach.now.chains c.args.tables.now c.args.l c.args.s c.in-Some.event has in
    omega (arith, low, c.count-slots.ensures, c.count-slots.type_inv)

pub last_before-requires : goal.last_before-requires
last_before-requires c =
    let has : HasSlot c.args.trace.now c.args.reach.now.chains c.args.tables.now c.args.l c.args.s c.in-Some.event =
    record { chains = c.requires.chains; tables_are = tables_keep c.args.trace.now c.args.reach.now.chains c.args.tables.now c.requires.tables; at = sym c.in-Some.ensures; source = c.requires.source } in
    let low = slot_low c.args.trace.now c.args.reach.now.chains c.args.tables.now c.args.l c.args.s c.in-Some.event has in
    subst (λ n. n < count_of c.args.tables.now.stores) (sym c.slot-slot.ensures) low

pub returns-in_default-last_before-clause-led : goal.returns-in_default-last_before-clause-led
returns-in_default-last_before-clause-led c = λ u own.
    let tables = c.args.tables.now in
    let has : HasSlot c.args.trace.now c.args.reach.now.chains tables c.args.l c.args.s c.in-Some.event =
    record { chains = c.requires.chains; tables_are = tables_keep c.args.trace.now c.args.reach.now.chains c.args.tables.now c.requires.tables; at = sym c.in-Some.ensures; source = c.requires.source } in
    let inside = own_inside c.args.trace.now c.args.reach.now.chains tables c.args.l c.args.s c.in-Some.event has u own in
    let less = inside.1 in
    let past : c.args.l ≤ u = c.in_default-last_before.ensures u (subst (λ n. IsIn tables.stores n u) (sym c.slot-slot.ensures) inside.0) in
    absurd (omega (arith, less, past))

pub join-requires-clause-from : goal.join-requires-clause-from
join-requires-clause-from c =
    let less = c.in-Some-last_before.ensures.below in
    let low = (HasSource-within c.args.trace.now c.args.l c.args.s c.requires.source).0 in
    let nodes = c.requires.chains.nodes in
    omega (arith, less, low, nodes)

pub join-requires-clause-to : goal.join-requires-clause-to
join-requires-clause-to c =
    let low = (HasSource-within c.args.trace.now c.args.l c.args.s c.requires.source).1 in
    let nodes = c.requires.chains.nodes in
    omega (arith, low, nodes)

pub returns-then-w-s-clause-grows : goal.returns-then-w-s-clause-grows
returns-then-w-s-clause-grows c =
    let tables = c.args.tables.now in
    let w = c.in-Some-last_before.w in
    let has : HasSlot c.args.trace.now c.args.reach.now.chains tables c.args.l c.args.s c.in-Some.event =
    record { chains = c.requires.chains; tables_are = tables_keep c.args.trace.now c.args.reach.now.chains c.args.tables.now c.requires.tables; at = sym c.in-Some.ensures; source = c.requires.source } in
    let last = c.in-Some-last_before.ensures in
    grows_join c.args.trace.now c.args.reach.now c.join.new.self w c.args.s (
      Own,
      (
        c.args.l,
        inside_own c.args.trace.now c.args.reach.now.chains tables c.args.l c.args.s c.in-Some.event has w
            (subst (λ n. IsIn tables.stores n w) c.slot-slot.ensures last.inside) last.below c.if-w-s.true,
      ),
    ) c.join.ensures

pub returns-then-w-s-clause-led : goal.returns-then-w-s-clause-led
returns-then-w-s-clause-led c = λ u own.
    let tables = c.args.tables.now in
    let w = c.in-Some-last_before.w in
    let has : HasSlot c.args.trace.now c.args.reach.now.chains tables c.args.l c.args.s c.in-Some.event =
    record { chains = c.requires.chains; tables_are = tables_keep c.args.trace.now c.args.reach.now.chains c.args.tables.now c.requires.tables; at = sym c.in-Some.ensures; source = c.requires.source } in
    let last : IsLastBefore tables.stores (slot_of tables c.in-Some.event.proc c.in-Some.event.a) c.args.l w =
    subst (λ n. IsLastBefore tables.stores n c.args.l w) c.slot-slot.ensures c.in-Some-last_before.ensures in
    c.join.ensures.joined u c.args.s (elim (own_before c.args.trace.now c.args.reach.now.chains tables c.args.l c.args.s c.in-Some.event has w last u own) [
      | inl e ↦ inl e
      | inr later ↦ inr (c.chains-chains.ensures.ordered u w later)
    ]) (inl refl)

pub returns-else-w-s-clause-led : goal.returns-else-w-s-clause-led
returns-else-w-s-clause-led c = λ u own.
    let tables = c.args.tables.now in
    let w = c.in-Some-last_before.w in
    let has : HasSlot c.args.trace.now c.args.reach.now.chains tables c.args.l c.args.s c.in-Some.event =
    record { chains = c.requires.chains; tables_are = tables_keep c.args.trace.now c.args.reach.now.chains c.args.tables.now c.requires.tables; at = sym c.in-Some.ensures; source = c.requires.source } in
    let last : IsLastBefore tables.stores (slot_of tables c.in-Some.event.proc c.in-Some.event.a) c.args.l w =
    subst (λ n. IsLastBefore tables.stores n c.args.l w) c.slot-slot.ensures c.in-Some-last_before.ensures in
    elim (own_before c.args.trace.now c.args.reach.now.chains tables c.args.l c.args.s c.in-Some.event has w last u own) [
      | inl e ↦ absurd (own.4 (e ∙ c.if-w-s.false))
      | inr later ↦ subst (λ n. Leads c.args.reach.now u n) c.if-w-s.false (c.chains-chains.ensures.ordered u w later)
    ]

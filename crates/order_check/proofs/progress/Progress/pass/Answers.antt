use Rattle.std.proofs.Common.{◌≡◌, ◌≢◌, ◌↔◌, ◌∙◌, ℕ, refl, sym, ap, subst, set, Some, arith}
use Rattle.std.proofs.lemmas.Bool.{not-false, not-true}
use Rattle.std.proofs.lemmas.List.{with_items_is}
use Rattle.std.proofs.lemmas.Option.{none-some}
use Rattle.bitsets.specs.Rows.{HasNumber}
use Rattle.tso_ops.specs.Events.{event_at}
use Rattle.tso_ops.proofs.EventFacts.{event_in_range}
use Rattle.order_check.proofs.ProgressFacts.{next_row, next_within, no_store_address, one_address, passed_plain, passed_store}
use Rattle.order_check.proofs.progress.Progress.pass.Goals as goal

pub without_number-requires : goal.without_number-requires
without_number-requires c =
    let (order, k, passed, at) = c.requires in omega (arith, next_within c.args.trace.now order k c.args.n c.args.self.now passed at, c.deref_mut.ensures.len)

pub index_mut-requires : goal.index_mut-requires
index_mut-requires c =
    let (order, k, passed, at) = c.requires in
    omega (arith, (event_in_range c.args.trace.now passed.trace c.args.n c.in-Some.event (sym c.event.ensures ∙ c.in-Some.is)).0, passed.addresses)

pub returns-then-not-event : goal.returns-then-not-event
returns-then-not-event c = λ order k passed at.
    let t = c.args.trace.now in
    let n = c.args.n in
    let old = c.args.self.now in
    let e = c.in-Some.event in
    let at_e : event_at t n ≡ Some e = sym c.event.ensures ∙ c.in-Some.is in
    passed_store t order k n old passed at _ refl
    (subst (λ new. (v : ℕ) → HasNumber new v ↔ (HasNumber c.args.self.now.left.items v × (v ≢ n))) (sym (with_items_is c.args.self.now.left c.without_number.new.row (omega arith)))
    (subst (λ xs. (v : ℕ) → HasNumber c.without_number.new.row v ↔ (HasNumber xs v × (v ≢ n))) c.deref_mut.ensures.value c.without_number.ensures))
    e.a (e, at_e, (not-true e.load c.if-not-event.true), refl) (event_in_range t passed.trace n e at_e).0 (λ b is. one_address t n e.a b (e, at_e, (not-true e.load c.if-not-event.true), refl) is)
    (ap (λ m. set old.last.items e.a m) (c.place-place.ensures ∙ next_row t order k n old passed at))

pub returns-else-not-event : goal.returns-else-not-event
returns-else-not-event c = λ order k passed at.
    let t = c.args.trace.now in
    let n = c.args.n in
    let e = c.in-Some.event in
    let at_e : event_at t n ≡ Some e = sym c.event.ensures ∙ c.in-Some.is in
    passed_plain t order k n c.args.self.now passed at _ refl
    (subst (λ new. (v : ℕ) → HasNumber new v ↔ (HasNumber c.args.self.now.left.items v × (v ≢ n))) (sym (with_items_is c.args.self.now.left c.without_number.new.row (omega arith)))
    (subst (λ xs. (v : ℕ) → HasNumber c.without_number.new.row v ↔ (HasNumber xs v × (v ≢ n))) c.deref_mut.ensures.value c.without_number.ensures))
    refl (no_store_address t n e at_e (not-false e.load c.if-not-event.false))

pub returns-in_default : goal.returns-in_default
returns-in_default c = λ order k passed at.
    let t = c.args.trace.now in
    let n = c.args.n in
    passed_plain t order k n c.args.self.now passed at _ refl
    (subst (λ new. (v : ℕ) → HasNumber new v ↔ (HasNumber c.args.self.now.left.items v × (v ≢ n))) (sym (with_items_is c.args.self.now.left c.without_number.new.row (omega arith)))
    (subst (λ xs. (v : ℕ) → HasNumber c.without_number.new.row v ↔ (HasNumber xs v × (v ≢ n))) c.deref_mut.ensures.value c.without_number.ensures))
    refl (λ a store. none-some store.0 (sym c.in_default.is ∙ c.event.ensures ∙ store.1))

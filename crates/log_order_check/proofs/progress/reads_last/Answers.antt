use Rattle.std.proofs.Common.{◌≡◌, ◌∙◌, ℕ, ap, slice_index, suc, Some, sym, subst, arith}
use Rattle.std.proofs.lemmas.Bool.{eq-eqb, eqb-true}
use Rattle.tso_ops.specs.Events.{event_at, IsStore}
use Rattle.tso_ops.specs.Settings.{first_value}
use Rattle.tso_ops.specs.declared.events.Event.{Event}
use Rattle.program_chains.specs.LogEvents.{as_trace_event}
use Rattle.tso_model.specs.Axioms.{place, IsVisible}
use Rattle.log_order_check.specs.Internal.Most.{IsMost}
use Rattle.log_order_check.specs.Internal.Progress.{IsPassedStore}
use Rattle.log_order_check.proofs.ReadFacts.{reads_value, visible_most}
use Rattle.log_order_check.proofs.progress.reads_last.Goals as goal
use Rattle.log_order_check.proofs.progress.reads_last.Goals.{in-Some, in-None}

pub returns : goal.returns
returns c = λ t tables passed at.
    let order = c.args.order.now in
    let places = c.args.tables.now.places.items in
    let l = c.args.l in
    let e = as_trace_event c.args.event in
    let own = c.own.ensures t order tables (e, at) in
    let last = subst (IsMost (IsPassedStore t order (suc (place order l)) e.a) places) (sym c.last_place.ensures) (passed.last e.a) in
    let visible = subst (IsMost (λ s. IsVisible t order s l) places) (sym c.max-most.ensures) (visible_most t order places tables.places l e at c.own.result c.last_place.result own last) in
    let first : c.max-most.result ≡ 0 → c.match-checked_sub.value ≡ first_value t.setting.first e.a = λ none. elim c.match-checked_sub.branch [
      | in-Some w ↦ absurd (let some = w.in-Some.ensures.0 in omega (arith, none, some))
      | in-None w ↦ w.value-is ∙ w.first_value-value.ensures ∙ tables.first e.a
    ] in
    let stored : (s k : ℕ) (d : Event) → IsStore t s → c.max-most.result ≡ suc k → slice_index order k ≡ s → event_at t s ≡ Some d → d.value ≡ c.match-checked_sub.value =
    λ s k d store most here at_d. elim c.match-checked_sub.branch [
      | in-Some w ↦ (
          let index : w.in-Some.k ≡ k = omega (arith, most, w.in-Some.ensures.1) in
          let number : w.place_in.result ≡ s = w.place_in.ensures ∙ ap (slice_index order) index ∙ here in
          w.stored_value-value.ensures t d tables.events (subst (λ n. event_at t n ≡ Some d) (sym number) at_d) ∙ sym w.value-is)
      | in-None w ↦ absurd (w.in-None.ensures (omega (arith, most)))
    ] in
    let both = reads_value t order places tables.places l e at c.max-most.result c.match-checked_sub.value visible first stored in
    (λ test. both.0 (eqb-true c.args.event.value c.match-checked_sub.value test), λ reads. eq-eqb c.args.event.value c.match-checked_sub.value (both.1 reads))

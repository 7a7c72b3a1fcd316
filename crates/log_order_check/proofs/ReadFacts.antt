-- Whether a load reads the last store that it sees.
use Rattle.std.proofs.Common.{◌≡◌, ◌↔◌, ◌∙◌, inl, inr, sym, ap, subst, ℕ, suc, ◌≤◌, Some, List, slice_get, slice_index, max, arith}
use Rattle.std.proofs.lemmas.Option.{get_or_from_slice_get}
use Rattle.tso_ops.specs.Values.{TraceValue}
use Rattle.tso_ops.specs.declared.events.Event.{Event}
use Rattle.tso_ops.specs.Events.{event_at, HasValue, IsStore}
use Rattle.tso_ops.specs.Settings.{first_value}
use Rattle.tso_ops.proofs.NumberFacts.{event_unique}
use Rattle.tso_model.specs.Axioms.{place, IsVisible, ReadsGreatest}
use Rattle.tso_model.proofs.Places.{place_same}
use Rattle.order_check.specs.Internal.Places.{ArePlaces}
use Rattle.order_check.proofs.ListFacts.{listed_at}
use Rattle.order_check.proofs.MetFacts.{to_address}
use Rattle.log_order_check.specs.Internal.Most.{IsMost}
use Rattle.log_order_check.specs.Internal.Progress.{IsPassedStore}
use Rattle.log_order_check.specs.Internal.Tables.{IsOwnStore}
use Rattle.log_order_check.proofs.MostFacts.{most_either}

module _ (t : TraceValue) (order places : List ℕ) (are : ArePlaces t order places) where
  -- the event of a place
  pub at_place : (s k : ℕ) → IsStore t s → slice_index places s ≡ suc k → slice_index order k ≡ s
  at_place s k store is =
      let same : place order s ≡ k = omega (arith, is, are.at s (store.0, store.1)) in
      get_or_from_slice_get order k s 0 (subst (λ i. slice_get order i ≡ Some s) same (listed_at s order (omega (arith, are.memory_order.once s (store.0, store.1)))))

  module _ (l : ℕ) (e : Event) (at : event_at t l ≡ Some e) where
    -- the greatest place of the stores that a load sees
    pub visible_most : (own last : ℕ) → IsMost (IsOwnStore t l) places own → IsMost (IsPassedStore t order (suc (place order l)) e.a) places last →
        IsMost (λ s. IsVisible t order s l) places (max own last)
    visible_most own last is_own is_last = most_either _ _ _ places own last
        (λ s is. (is.0, is.2, inr is.1))
        (λ s is. ((is.0.0, is.0.1, is.0.2), (is.0.0, e, is.0.1, at, is.0.3), inl (omega (arith, is.1))))
        (λ s visible. elim visible.2 [
          | inl up_to ↦ inr (to_address t l e at s visible.0 visible.1, omega (arith, up_to))
          | inr earlier ↦ inl (visible.0, earlier, visible.1)
        ]) is_own is_last

    module _ (most value : ℕ) (is : IsMost (λ s. IsVisible t order s l) places most) where
      none_seen : most ≡ 0 → (s : ℕ) → IsVisible t order s l → ⊥
      none_seen none s visible = omega (arith, none, is.most s visible, are.at s (visible.0.0, visible.0.1))

      reads_first : most ≡ 0 → value ≡ first_value t.setting.first e.a → (e.value ≡ value) ↔ ReadsGreatest t order l
      reads_first none first = (
        λ same. inl ((e, at, same ∙ first), none_seen none),
        λ reads. elim reads [
          | inl read ↦ subst (λ (y : Event). y.value ≡ value) (event_unique t l read.0.0 e read.0.1 at)
              (read.0.2 ∙ ap (λ (y : Event). first_value t.setting.first y.a) (event_unique t l read.0.0 e read.0.1 at) ∙ sym first)
          | inr read ↦ absurd (none_seen none read.0 read.1)
        ],
      )

      reads_store : (s : ℕ) → IsVisible t order s l → most ≡ slice_index places s → HasValue t s value → (e.value ≡ value) ↔ ReadsGreatest t order l
      reads_store s visible is_most has = (
        λ same. inr (
          s,
          visible,
          (has.0, e, has.1, at, has.2 ∙ sym same),
          λ other seen. omega (arith, is.most other seen, is_most, are.at other (seen.0.0, seen.0.1), are.at s (visible.0.0, visible.0.1)),
        ),
        λ reads. elim reads [
          | inl read ↦ absurd (read.1 s visible)
          | inr (u, seen, same, greatest) ↦ (
              let up : place order s ≤ place order u = greatest s visible in
              let low : place order u ≤ place order s = omega (arith, is.most u seen, is_most, are.at u (seen.0.0, seen.0.1), are.at s (visible.0.0, visible.0.1)) in
              let one : u ≡ s = place_same order u s (omega (arith, are.memory_order.once s (visible.0.0, visible.0.1))) (omega (arith, up, low)) in
              ap (λ (y : Event). y.value) (event_unique t l e same.1 at same.3) ∙ sym same.4
              ∙ ap (λ (y : Event). y.value) (event_unique t s same.0 has.0 (subst (λ v. event_at t v ≡ Some same.0) one same.2) has.1) ∙ has.2)
        ],
      )

      -- The load reads the value exactly if it is that of the store at the greatest place, or the first value where it sees none.
      pub reads_value : (most ≡ 0 → value ≡ first_value t.setting.first e.a) → ((s k : ℕ) (d : Event) → IsStore t s → most ≡ suc k → slice_index order k ≡ s → event_at t s ≡ Some d → d.value ≡ value) →
          (e.value ≡ value) ↔ ReadsGreatest t order l
      reads_value first stored = elim is.some [
        | inl none ↦ reads_first none (first none)
        | inr (s, visible, is_most) ↦ (
            let above : most ≡ suc (place order s) = is_most ∙ are.at s (visible.0.0, visible.0.1) in
            let here : slice_index order (place order s) ≡ s = at_place s (place order s) visible.0 (are.at s (visible.0.0, visible.0.1)) in
            reads_store s visible is_most (visible.0.0, visible.0.1, stored s (place order s) visible.0.0 visible.0 above here visible.0.1))
      ]

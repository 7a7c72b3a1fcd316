-- What is known of a list as its events are passed.
use Rattle.std.proofs.Common.{◌≡◌, ◌⊎◌, ◌∙◌, inl, inr, sym, ap, subst, refl, ℕ, suc, ◌<◌, IsTrue, IsFalse, false, Some, List, slice_get, slice_index, max, arith}
use Rattle.std.specs.Prelude.{nat_eq, unwrap_or}
use Rattle.std.specs.HashMap.{get, Updates}
use Rattle.std.proofs.lemmas.Bool.{cases_eq}
use Rattle.std.proofs.lemmas.Bool.Decides.{nat_tests}
use Rattle.tso_ops.specs.Values.{TraceValue}
use Rattle.tso_ops.specs.declared.events.Event.{Event}
use Rattle.tso_ops.specs.Events.{event_at, IsEvent, IsStoreTo, IsSwapLoad}
use Rattle.tso_ops.proofs.NumberFacts.{event_unique, load_is_no_store}
use Rattle.tso_model.specs.Axioms.{place}
use Rattle.tso_model.proofs.Decided.{IsEvent-decided}
use Rattle.tso_model.proofs.Places.{place_same}
use Rattle.order_check.specs.Internal.Places.{ArePlaces}
use Rattle.order_check.proofs.ListFacts.{occurs_at, place_once}
use Rattle.log_order_check.specs.declared.progress.Progress.{Progress}
use Rattle.log_order_check.specs.Internal.Most.{IsMost}
use Rattle.log_order_check.specs.Internal.Progress.{HasPassed, IsAwaited, IsPassedStore}
use Rattle.log_order_check.specs.Internal.Tables.{looked_up}
use Rattle.log_order_check.proofs.MostFacts.{most_last, most_more, most_none, most_same}

-- nothing is passed
pub passed_none : (t : TraceValue) (order places : List ℕ) (progress : Progress) → ((a : ℕ) → looked_up progress.last a ≡ 0) → progress.awaited ≡ 0 → HasPassed t order places 0 progress
passed_none t order places progress last awaited = record {
  last = λ a. subst (IsMost (IsPassedStore t order 0 a) places) (sym (last a)) (most_none _ places (λ s is. (let below : place order s < 0 = is.1 in omega (arith, below))));
  awaited = subst (IsMost (IsAwaited t order 0) places) (sym awaited) (most_none _ places (λ s is. (let below : place order is.0 < 0 = is.3 in omega (arith, below))));
}

module _ (t : TraceValue) (order places : List ℕ) (are : ArePlaces t order places) (k n : ℕ) (at : slice_get order k ≡ Some n) where
  -- the number at a place of a memory order is an event
  pub next_event : IsEvent t n
  next_event = elim (IsEvent-decided t n) [
    | inl event ↦ event
    | inr none ↦ absurd (omega (arith, occurs_at order k n at, are.memory_order.events n none))
  ]

  -- and this is its place
  pub next_place : place order n ≡ k
  next_place = place_once order k n (are.memory_order.once n next_event) at

  -- an event at the next place is the next event
  pub at_next : (s : ℕ) → place order s ≡ k → s ≡ n
  at_next s same = place_same order s n (omega (arith, are.memory_order.once n next_event)) (same ∙ sym next_place)

  -- the events passed with the next one
  passed_or_next : (s : ℕ) → place order s < suc k → (place order s < k) ⊎ (s ≡ n)
  passed_or_next s below = elim (cases_eq (place order s) k) [
    | inl same ↦ inr (at_next s same)
    | inr other ↦ inl (omega (arith, below, other))
  ]

  -- of an address that the event is no store to, the last store stays
  last_kept : (a m : ℕ) → (IsStoreTo t a n → ⊥) → IsMost (IsPassedStore t order k a) places m → IsMost (IsPassedStore t order (suc k) a) places m
  last_kept a m none is = most_same _ _ places m (λ s has. (has.0, omega (arith, has.1)))
      (λ s has. (has.0, elim (passed_or_next s has.1) [ inl before ↦ before | inr same ↦ absurd (none (subst (IsStoreTo t a) same has.0)) ])) is

  -- of its own address it is the last store
  last_here : (a : ℕ) → IsStoreTo t a n → IsMost (IsPassedStore t order (suc k) a) places (slice_index places n)
  last_here a store = most_last _ places n (slice_index places n) refl (store, omega (arith, next_place))
      (λ s has. omega (arith, has.1, are.at s (has.0.0, has.0.1), are.at n next_event, next_place))

  awaited_kept : (m : ℕ) → (IsSwapLoad t n → ⊥) → IsMost (IsAwaited t order k) places m → IsMost (IsAwaited t order (suc k)) places m
  awaited_kept m none is = most_same _ _ places m (λ s has. (has.0, has.1, has.2, omega (arith, has.3)))
      (λ s has. (has.0, has.1, has.2, elim (passed_or_next has.0 has.3) [ inl before ↦ before | inr same ↦ absurd (none (subst (IsSwapLoad t) same has.2)) ])) is

  awaited_more : (m : ℕ) → IsSwapLoad t n → IsMost (IsAwaited t order k) places m → IsMost (IsAwaited t order (suc k)) places (max m (slice_index places (suc n)))
  awaited_more m swap is = most_more _ _ places m (suc n) (slice_index places (suc n)) refl
      (λ s has. (has.0, has.1, has.2, omega (arith, has.3)))
      (n, refl, swap, omega (arith, next_place))
      (λ s has. elim (passed_or_next has.0 has.3) [
        | inl before ↦ inl (has.0, has.1, has.2, before)
        | inr same ↦ inr (has.1 ∙ ap (λ m. suc m) same)
      ]) is

  module _ (old : Progress) (passed : HasPassed t order places k old) (e : Event) (at_n : event_at t n ≡ Some e) where
    no_store : IsTrue e.load → (a : ℕ) → IsStoreTo t a n → ⊥
    no_store load a store = load_is_no_store t n (e, at_n, load) (store.0, store.1, store.2)

    -- an event that is a load
    pub pass_load : (awaited : ℕ) → IsTrue e.load → IsMost (IsAwaited t order (suc k)) places awaited → HasPassed t order places (suc k) (record { last = old.last; awaited = awaited })
    pass_load awaited load is = record { last = λ a. last_kept a (looked_up old.last a) (no_store load a) (passed.last a); awaited = is }

    pub not_awaited : (IsTrue e.swap → ⊥) → IsMost (IsAwaited t order (suc k)) places old.awaited
    not_awaited plain = awaited_kept old.awaited (λ swap. plain (ap (λ (y : Event). y.swap) (event_unique t n e swap.0 at_n swap.1) ∙ swap.3)) passed.awaited

    pub now_awaited : (m : ℕ) → IsTrue e.load → IsTrue e.swap → m ≡ max old.awaited (slice_index places (suc n)) → IsMost (IsAwaited t order (suc k)) places m
    now_awaited m load swap is = subst (IsMost (IsAwaited t order (suc k)) places) (sym is) (awaited_more old.awaited (e, at_n, load, swap) passed.awaited)

    -- a store
    pub pass_store : (new : Progress) → IsFalse e.load → new.awaited ≡ old.awaited → Updates nat_eq old.last new.last e.a (Some (slice_index places n)) → HasPassed t order places (suc k) new
    pass_store new store same updates = record {
      last = λ a. elim (cases_eq e.a a) [
        | inl here ↦
            subst (IsMost (IsPassedStore t order (suc k) a) places) (sym (ap (λ o. unwrap_or o 0) (subst (λ b. get nat_eq new.last b ≡ Some (slice_index places n)) here updates.1)))
            (last_here a (e, at_n, store, here))
        | inr other ↦ (
            let test : nat_eq e.a a ≡ false = grind (arith, nat_tests) in
            subst (IsMost (IsPassedStore t order (suc k) a) places) (sym (ap (λ o. unwrap_or o 0) (updates.2 a test)))
            (last_kept a (looked_up old.last a) (λ is. other (ap (λ (y : Event). y.a) (event_unique t n e is.0 at_n is.1) ∙ is.3)) (passed.last a)))
      ];
      awaited = subst (IsMost (IsAwaited t order (suc k)) places) (sym same)
          (awaited_kept old.awaited (λ swap. load_is_no_store t n (swap.0, swap.1, swap.2) (e, at_n, store)) passed.awaited);
    }

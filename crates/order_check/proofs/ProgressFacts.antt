-- What is known of a list as its events are passed.
use Rattle.std.proofs.Common.{◌≡◌, ◌≢◌, ◌↔◌, ◌∙◌, inl, inr, sym, ap, subst, ℕ, suc, ◌/◌, ◌<◌, ◌≤◌, IsTrue, Some, List, length, set, replicate, get_or, slice_get, slice_index, arith}
use Rattle.std.proofs.lemmas.Bool.{cases_eq, cases_lt}
use Rattle.std.proofs.lemmas.List.{get_or-set_same, get_or-set_other, get_or-replicate, get_or_past, length-set, length-replicate}
use Rattle.bitsets.specs.Rows.{HasNumber}
use Rattle.bitsets.proofs.RowFacts.{HasNumber-within}
use Rattle.tso_ops.specs.Values.{TraceValue}
use Rattle.tso_ops.specs.Limits.{IsTrace}
use Rattle.tso_ops.specs.declared.events.Event.{Event}
use Rattle.tso_ops.specs.Events.{event_at, event_total, IsEvent, IsStoreTo}
use Rattle.tso_ops.proofs.NumberFacts.{event_above_zero, event_unique, load_is_no_store, IsEvent-within}
use Rattle.tso_model.specs.Axioms.{place}
use Rattle.tso_model.proofs.Decided.{IsEvent-decided}
use Rattle.tso_model.proofs.Places.{place_same}
use Rattle.order_check.specs.declared.progress.Progress.{Progress}
use Rattle.order_check.specs.Internal.Places.{ArePlaces}
use Rattle.order_check.specs.Internal.Progress.{HasPassed, IsLastPlace}
use Rattle.order_check.proofs.ListFacts.{occurs_at, place_once}
use Rattle.order_check.proofs.PlaceFacts.{event_within}

-- a table of zeros has 0 everywhere
zeros : (count k : ℕ) → ◌≡◌ {A = ℕ} (get_or (replicate count 0) k 0) 0
zeros count k = elim (cases_lt k count) [
  | inl within ↦ get_or-replicate count k 0 0 within
  | inr past ↦ get_or_past (replicate count 0) k 0 (omega (arith, length-replicate {A = ℕ} count 0))
]

-- nothing is passed
pub passed_none : (t : TraceValue) (order : List ℕ) (progress : Progress) (count : ℕ) → IsTrace t → ArePlaces t order progress.places.items → count ≡ event_total t →
    ((v : ℕ) → HasNumber progress.left.items v ↔ ((0 < v) × (v ≤ count))) → progress.last.items ≡ replicate 256 0 → HasPassed t order 0 progress
passed_none t order progress count trace places count_is left last = record {
  trace = trace;
  places = places;
  left = λ v. (
    λ has. (let is = (left v).0 has in (event_within t v is.0 (omega (arith, is.1, count_is)), omega arith)),
    λ is. (left v).1 (event_above_zero t v is.0, omega (arith, IsEvent-within t v is.0, count_is)),
  );
  addresses = ap length last ∙ length-replicate {A = ℕ} 256 0;
  last = λ a below. record {
    most = λ s store before. absurd (omega arith);
    some = inl (ap (λ xs. get_or xs a 0) last ∙ zeros 256 a);
  };
}

module _ (t : TraceValue) (order : List ℕ) (k n : ℕ) (old : Progress) (passed : HasPassed t order k old) (at : slice_get order k ≡ Some n) where
  -- the number at a place of a memory order is an event
  pub next_event : IsEvent t n
  next_event = elim (IsEvent-decided t n) [
    | inl event ↦ event
    | inr none ↦ absurd (omega (arith, occurs_at order k n at, passed.places.memory_order.events n none))
  ]

  -- and this is its place
  pub next_place : place order n ≡ k
  next_place = place_once order k n (passed.places.memory_order.once n next_event) at

  pub next_left : HasNumber old.left.items n
  next_left = (passed.left n).1 (next_event, omega (arith, next_place))

  pub next_within : n / 64 < length old.left.items
  next_within = HasNumber-within old.left.items n next_left

  pub next_row : slice_index old.places.items n ≡ suc k
  next_row = passed.places.at n next_event ∙ ap suc next_place

  -- an event at the next place is the next event
  pub at_next : (s : ℕ) → place order s ≡ k → s ≡ n
  at_next s same = place_same order s n (omega (arith, passed.places.memory_order.once n next_event)) (same ∙ sym next_place)

  module _ (new : Progress) (same_places : new.places.items ≡ old.places.items) (less : (v : ℕ) → HasNumber new.left.items v ↔ (HasNumber old.left.items v × (v ≢ n))) where
    left_after : (v : ℕ) → HasNumber new.left.items v ↔ (IsEvent t v × (suc k ≤ place order v))
    left_after v = (
      λ has. (
          let is = (less v).0 has in
          let old_is = (passed.left v).0 is.0 in
          (old_is.0, elim (cases_eq (place order v) k) [ inl same ↦ absurd (is.1 (at_next v same)) | inr other ↦ omega (arith, old_is.1, other) ])),
      λ is. (less v).1 ((passed.left v).1 (is.0, omega (arith, is.1)), λ same. omega (arith, is.1, ap (place order) same, next_place)),
    )

    -- of an address that the event is no store to, the last store stays
    last_kept : (a m : ℕ) → IsLastPlace t order k a m → (IsStoreTo t a n → ⊥) → IsLastPlace t order (suc k) a m
    last_kept a m before other = record {
      most = λ s store below. elim (cases_eq (place order s) k) [
        | inl same ↦ absurd (other (subst (IsStoreTo t a) (at_next s same) store))
        | inr differs ↦ before.most s store (omega (arith, below, differs))
      ];
      some = elim before.some [
        | inl none ↦ inl none
        | inr found ↦ inr (found.0, found.1, omega (arith, found.2), found.3)
      ];
    }

    -- of its own address it is the last store
    last_here : (a : ℕ) → IsStoreTo t a n → IsLastPlace t order (suc k) a (suc k)
    last_here a store = record { most = λ s other below. below; some = inr (n, store, omega (arith, next_place), ap suc (sym next_place)) }

    pub passed_plain : new.last.items ≡ old.last.items → ((a : ℕ) → IsStoreTo t a n → ⊥) → HasPassed t order (suc k) new
    passed_plain same none = record {
      trace = passed.trace;
      places = subst (ArePlaces t order) (sym same_places) passed.places;
      left = left_after;
      addresses = ap length same ∙ passed.addresses;
      last = λ a below. last_kept a (slice_index new.last.items a) (subst (IsLastPlace t order k a) (ap (λ xs. slice_index xs a) (sym same)) (passed.last a below)) (none a);
    }

    pub passed_store : (a : ℕ) → IsStoreTo t a n → a < 256 → ((b : ℕ) → IsStoreTo t b n → b ≡ a) → new.last.items ≡ set old.last.items a (suc k) → HasPassed t order (suc k) new
    passed_store a store low one same = record {
      trace = passed.trace;
      places = subst (ArePlaces t order) (sym same_places) passed.places;
      left = left_after;
      addresses = ap length same ∙ length-set old.last.items a (suc k) ∙ passed.addresses;
      last = λ b below. elim (cases_eq b a) [
        | inl here ↦ (
            let read : slice_index new.last.items b ≡ suc k =
            ap (slice_index new.last.items) here ∙ ap (λ xs. slice_index xs a) same ∙ get_or-set_same old.last.items a (suc k) 0 (omega (arith, low, passed.addresses)) in
            subst (IsLastPlace t order (suc k) b) (sym read) (last_here b (subst (λ c. IsStoreTo t c n) (sym here) store)))
        | inr other ↦ (
            let read : slice_index new.last.items b ≡ slice_index old.last.items b = ap (λ xs. slice_index xs b) same ∙ get_or-set_other old.last.items a b (suc k) 0 other in
            subst (IsLastPlace t order (suc k) b) (sym read) (last_kept b (slice_index old.last.items b) (passed.last b below) (λ is. other (one b is))))
      ];
    }

-- an event is a store to one address at most
pub one_address : (t : TraceValue) (n a b : ℕ) → IsStoreTo t a n → IsStoreTo t b n → b ≡ a
one_address t n a b (d, at_d, f, is_a) (e, at_e, g, is_b) = sym is_b ∙ ap (λ (x : Event). x.a) (event_unique t n e d at_e at_d) ∙ is_a

-- a load is a store to none
pub no_store_address : (t : TraceValue) (n : ℕ) (e : Event) → event_at t n ≡ Some e → IsTrue e.load → (a : ℕ) → IsStoreTo t a n → ⊥
no_store_address t n e at load a store = load_is_no_store t n (e, at, load) (store.0, store.1, store.2)

-- The table of places, as it is filled, and what it says of a whole list.
use Rattle.std.proofs.Common.{◌≡◌, ◌≢◌, ◌∙◌, inl, inr, sym, ap, subst, refl, ℕ, zero, suc, ◌+◌, ◌<◌, Some, List, [], ◌∷◌, ◌++◌, length, take, set, get_or, slice_get, slice_index, arith}
use Rattle.std.proofs.lemmas.Bool.{cases_eq, cases_lt}
use Rattle.std.proofs.lemmas.Option.{same_Some, slice_get-get_or}
use Rattle.std.proofs.lemmas.List.{get_or-set_same, get_or-set_other, length-set, length-take-le, take_more}
use Rattle.tso_ops.specs.Values.{TraceValue}
use Rattle.tso_ops.specs.Events.{events_of, event_at, event_total, IsEvent}
use Rattle.tso_ops.proofs.NumberFacts.{event_above_zero, IsEvent-within}
use Rattle.tso_model.specs.Axioms.{occurrences, place}
use Rattle.tso_model.proofs.Decided.{IsEvent-decided}
use Rattle.tso_model.proofs.Places.{place-here, occurrences-append, occurrences-other, occurrences-same, place-listed, place-past}
use Rattle.order_check.specs.Refusals.{AreDistinct, AreEvents, IsFirst, IsMissing, IsRepeatedAt, IsNoEventAt}
use Rattle.order_check.specs.Internal.Places.{ArePlaces, HasPlaces, TellsPlace}
use Rattle.order_check.proofs.ListFacts.{listed_at, occurs_twice}

some_at : {X : Type 0} (xs : List X) (k : ℕ) → k < length xs → (x : X) × (slice_get xs k ≡ Some x)
some_at [] k within = absurd (omega arith)
some_at (x ∷ xs) zero within = (x, refl)
some_at (x ∷ xs) (suc k) within = some_at xs k (omega arith)

-- each number from 1 to the number of events is an event
pub event_within : (t : TraceValue) (n : ℕ) → 0 < n → n < suc (event_total t) → IsEvent t n
unfolding event_at
event_within t zero above below = absurd (omega arith)
event_within t (suc k) above below = some_at (events_of t) k (omega arith)

-- ---- the table as it is filled

-- before the first number
pub places_none : (places : List ℕ) → ((n : ℕ) → slice_index places n ≡ 0) → HasPlaces [] places
places_none places none = record { each = λ n within. inl (refl, none n) }

-- one number more, which has no place yet
pub places_more : (before places : List ℕ) (n : ℕ) → n < length places → HasPlaces before places → slice_index places n ≡ 0 →
    HasPlaces (before ++ n ∷ []) (set places n (suc (length before)))
places_more before places n within has none = record { each = each }
  where
    after : List ℕ
    after = set places n (suc (length before))

    unlisted : occurrences n before ≡ 0
    unlisted = elim (has.each n within) [ inl is ↦ is.0 | inr is ↦ absurd (omega (arith, none, is.1)) ]

    here : TellsPlace (before ++ n ∷ []) after n
    here = inr (
      omega (arith, unlisted, occurrences-append n before (n ∷ []), occurrences-same n n refl),
      get_or-set_same places n (suc (length before)) 0 within ∙ ap suc (omega (arith, place-past n before (n ∷ []) unlisted, place-here n [] n refl)),
    )

    apart : (m : ℕ) → m < length after → (n ≡ m → ⊥) → TellsPlace (before ++ n ∷ []) after m
    apart m inside other =
        let same : slice_index after m ≡ slice_index places m = get_or-set_other places n m (suc (length before)) 0 (λ e. other (sym e)) in
        let count : occurrences m (before ++ n ∷ []) ≡ occurrences m before = omega (arith, occurrences-append m before (n ∷ []), occurrences-other m n other) in
        elim (has.each m (omega (arith, inside, length-set places n (suc (length before))))) [
          | inl is ↦ inl (count ∙ is.0, same ∙ is.1)
          | inr is ↦ inr (count ∙ is.0, same ∙ is.1 ∙ ap suc (sym (place-listed m before (n ∷ []) (omega (arith, is.0))).0))
        ]

    each : (m : ℕ) → m < length after → TellsPlace (before ++ n ∷ []) after m
    each m inside = elim (cases_eq n m) [
      | inl same ↦ subst (TellsPlace (before ++ n ∷ []) after) same here
      | inr other ↦ apart m inside other
    ]

-- a number with a place stands earlier
pub placed_before : (before places : List ℕ) (n : ℕ) → n < length places → HasPlaces before places → slice_index places n ≢ 0 → 0 < occurrences n before
placed_before before places n within has some = elim (has.each n within) [ inl is ↦ absurd (some is.1) | inr is ↦ omega (arith, is.0) ]

-- a number without one doesn't
pub unplaced_before : (before places : List ℕ) (n : ℕ) → n < length places → HasPlaces before places → slice_index places n ≡ 0 → occurrences n before ≡ 0
unplaced_before before places n within has none = elim (has.each n within) [ inl is ↦ is.0 | inr is ↦ absurd (omega (arith, none, is.1)) ]

-- the number at the next place, in the loop
pub places_next : (order places : List ℕ) (k : ℕ) → k < length order → get_or order k 0 < length places → HasPlaces (take k order) places → slice_index places (get_or order k 0) ≡ 0 →
    HasPlaces (take (k + 1) order) (set places (get_or order k 0) (k + 1))
places_next order places k inside within has none =
    let n : ℕ = get_or order k 0 in
    let size : suc (length (take k order)) ≡ k + 1 = omega (arith, length-take-le k order (omega arith)) in
    subst (λ xs. HasPlaces xs (set places n (k + 1))) (sym (take_more order k 0 inside))
    (subst (λ v. HasPlaces (take k order ++ n ∷ []) (set places n v)) size (places_more (take k order) places n within has none))

-- no number but the last of these is one that stands at two places
pub distinct_more : (order places : List ℕ) (k : ℕ) → k < length order → get_or order k 0 < length places → HasPlaces (take k order) places → slice_index places (get_or order k 0) ≡ 0 →
    ((j : ℕ) → j < k → IsRepeatedAt order j → ⊥) → (j : ℕ) → j < k + 1 → IsRepeatedAt order j → ⊥
distinct_more order places k inside within has none before j below repeated = elim (cases_lt j k) [
  | inl earlier ↦ before j earlier repeated
  | inr late ↦ (
      let same : j ≡ k = omega arith in
      let (n, at, earlier) = subst (IsRepeatedAt order) same repeated in
      let one : get_or order k 0 ≡ n = same_Some (get_or order k 0) n (sym (slice_get-get_or order k 0 inside) ∙ at) in
      omega (arith, subst (λ m. 0 < occurrences m (take k order)) (sym one) earlier, unplaced_before (take k order) places (get_or order k 0) within has none))
]

-- the numbers passed and one more event
pub no_event_more : (t : TraceValue) (order : List ℕ) (k : ℕ) → k < length order → IsEvent t (get_or order k 0) → ((j : ℕ) → j < k → IsNoEventAt t order j → ⊥) →
    (j : ℕ) → j < k + 1 → IsNoEventAt t order j → ⊥
no_event_more t order k inside event before j below absent = elim (cases_lt j k) [
  | inl earlier ↦ before j earlier absent
  | inr late ↦ (
      let same : j ≡ k = omega arith in
      let (n, at, none) = subst (IsNoEventAt t order) same absent in
      none (subst (IsEvent t) (same_Some (get_or order k 0) n (sym (slice_get-get_or order k 0 inside) ∙ at)) event))
]

-- the numbers of a list of events lie within the numbers of events
pub listed_within : (t : TraceValue) (order : List ℕ) → AreEvents t order → (k n : ℕ) → slice_get order k ≡ Some n → n < suc (event_total t)
listed_within t order events k n at = elim (IsEvent-decided t n) [
  | inl event ↦ IsEvent-within t n event
  | inr none ↦ absurd (events k (n, at, none))
]

-- ---- a whole list

-- no number of a list stands there twice, where the table says of each where it stands
pub distinct_of_places : (order places : List ℕ) → ((k n : ℕ) → slice_get order k ≡ Some n → n < length places) → HasPlaces order places → AreDistinct order
distinct_of_places order places within has k (n, at, earlier) =
    let twice = occurs_twice order k n at earlier in
    elim (has.each n (within k n at)) [ inl is ↦ absurd (omega (arith, twice, is.0)) | inr is ↦ absurd (omega (arith, twice, is.0)) ]

module _ (t : TraceValue) (order places : List ℕ) (events : AreEvents t order) (has : HasPlaces order places) (long : length places ≡ suc (event_total t)) where
  -- a number that is no event isn't listed
  others : (n : ℕ) → (IsEvent t n → ⊥) → occurrences n order ≡ 0
  others n none = elim (cases_lt 0 (occurrences n order)) [
    | inl listed ↦ absurd (events (place order n) (n, listed_at n order listed, none))
    | inr unlisted ↦ omega (arith, unlisted)
  ]

  module _ (all : (n : ℕ) → 0 < n → n < length places → slice_index places n ≢ 0) where
    tells : (n : ℕ) → IsEvent t n → (occurrences n order ≡ 1) × (slice_index places n ≡ suc (place order n))
    tells n event =
        let inside : n < length places = omega (arith, IsEvent-within t n event, long) in
        elim (has.each n inside) [ inl is ↦ absurd (all n (event_above_zero t n event) inside is.1) | inr is ↦ is ]

    -- where each event has a place, each stands in the list once
    pub are_places : ArePlaces t order places
    are_places = record {
      memory_order = record { once = λ n event. (tells n event).0; events = others };
      zero_has_none = elim (has.each 0 (omega (arith, long))) [
        | inl is ↦ is.1
        | inr is ↦ absurd (omega (arith, is.0, others 0 (λ event. (let above = event_above_zero t 0 event in omega arith))))
      ];
      at = λ n event. (tells n event).1;
    }

  -- the least number without a place is the least event that is missing
  pub is_missing : (n : ℕ) → IsFirst (λ m. (0 < m) × (m < length places) × (slice_index places m ≡ 0)) n → IsFirst (IsMissing t order) n
  is_missing n first = (
    (event_within t n first.0.0 (omega (arith, first.0.1, long)), unplaced_before order places n first.0.1 has first.0.2),
    λ m less missing. (
        let inside : m < length places = omega (arith, IsEvent-within t m missing.0, long) in
        let unplaced : slice_index places m ≡ 0 = elim (has.each m inside) [ inl is ↦ is.1 | inr is ↦ absurd (omega (arith, missing.1, is.0)) ] in
        first.1 m less (event_above_zero t m missing.0, inside, unplaced)),
  )

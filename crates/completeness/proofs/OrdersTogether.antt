-- Some order of the model has each swap's two events side by side: the events in the order of the places that they go to.
use Rattle.std.proofs.Common.{◌≡◌, ◌∙◌, ◌⊎◌, inl, inr, refl, sym, ap, ℕ, zero, suc, ◌<◌, ◌≤◌, List, [], ◌∷◌, length, arith}
use Rattle.std.proofs.lemmas.Bool.{cases_eq, cases_lt, cases_order}
use Rattle.order_paths.proofs.Decisions.{Decision, Decision-iff, Decision-both, Decision-four, Decision-either, Decision-lt}
use Rattle.tso_ops.specs.Values.{TraceValue}
use Rattle.tso_ops.specs.Events.{event_total, IsEvent, IsLoad, IsStore, IsSwapLoad, Earlier}
use Rattle.tso_ops.proofs.NumberFacts.{event_above_zero, event_at-within, load_event, store_event}
use Rattle.tso_ops.proofs.SwapFacts.{IsSwapLoad-store}
use Rattle.tso_model.specs.Axioms.{occurrences, place, IsUpTo, IsVisible, ReadsGreatest, IsMemoryOrder, IsModelOrder, MeetsAtomicity}
use Rattle.tso_model.proofs.Decided.{IsEvent-decided}
use Rattle.tso_model.proofs.Places.{before_not_up_to, occurrences-later, place-here, place-later, place-with_init, up_to_from_before}
use Rattle.embedding.proofs.Places.{occurrences-cons, occurrences-one, place-listed}
use Rattle.completeness.specs.ClosedOrders.{Respects}
use Rattle.completeness.proofs.LinearExtensions.{linear_extension}
use Rattle.completeness.specs.SwapsTogether.{HasSwapsTogether}
use Rattle.completeness.proofs.SwapSpans.{IsPlacedBefore, Spot, load_first, nothing_between, one_spot, spot, store_first, store_seen, strictly, swap_first}

-- each place of a list without repetitions is a listed number's
listed_place : (numbers : List ℕ) (k : ℕ) → ((n : ℕ) → occurrences n numbers ≤ 1) → k < length numbers → (n : ℕ) × (0 < occurrences n numbers) × (place numbers n ≡ k)
listed_place [] k once within = absurd (omega (arith, within))
listed_place (x ∷ numbers) zero once within = (x, omega (arith, occurrences-cons x x numbers, occurrences-one x), place-here x numbers x refl)
listed_place (x ∷ numbers) (suc k) once within =
    let rest = listed_place numbers k (λ n. omega (arith, once n, occurrences-cons n x numbers)) (omega (arith, within)) in
    let n = rest.0 in
    elim (cases_eq x n) [
      | inl same ↦ (
          let one : occurrences n (x ∷ []) ≡ 1 = ap (λ m. occurrences n (m ∷ [])) same ∙ occurrences-one n in
          absurd (omega (arith, once n, occurrences-cons n x numbers, one, rest.1))
          )
      | inr other ↦ (n, omega (arith, occurrences-later n x numbers other, rest.1), omega (arith, place-later x numbers n other, rest.2))
    ]

module _ (t : TraceValue) (order : List ℕ) (axioms : IsModelOrder t order) where
  abbrev PlacedBefore : ℕ → ℕ → Type 0
  PlacedBefore u v = IsPlacedBefore (spot t order u) (spot t order v)

  PlacedBefore-decided : (u v : ℕ) → Decision (PlacedBefore u v)
  PlacedBefore-decided u v =
      let a = spot t order u in
      let b = spot t order v in
      Decision-either (Decision-lt a.at b.at) (Decision-both (cases_eq a.at b.at) (Decision-lt a.rank b.rank))

  PlacedBefore-join : (u v w : ℕ) → PlacedBefore u v → PlacedBefore v w → PlacedBefore u w
  PlacedBefore-join u v w (inl one) (inl two) = inl (omega (arith, one, two))
  PlacedBefore-join u v w (inl one) (inr two) = inl (omega (arith, one, two.0))
  PlacedBefore-join u v w (inr one) (inl two) = inl (omega (arith, one.0, two))
  PlacedBefore-join u v w (inr one) (inr two) = inr (one.0 ∙ two.0, omega (arith, one.1, two.1))

  PlacedBefore-self : (u : ℕ) → PlacedBefore u u → ⊥
  PlacedBefore-self u (inl less) = omega (arith, less)
  PlacedBefore-self u (inr less) = omega (arith, less.1)

  -- of two events one goes before the other
  PlacedBefore-total : (u v : ℕ) → IsEvent t v → (u ≡ v → ⊥) → PlacedBefore u v ⊎ PlacedBefore v u
  PlacedBefore-total u v event other = by_place (cases_order a.at b.at)
    where
      a : Spot t order u
      a = spot t order u

      b : Spot t order v
      b = spot t order v

      by_rank : a.at ≡ b.at → (a.rank ≡ b.rank) ⊎ (a.rank < b.rank) ⊎ (b.rank < a.rank) → PlacedBefore u v ⊎ PlacedBefore v u
      by_rank at (inl rank) = absurd (other (one_spot t order axioms u v a b event at rank))
      by_rank at (inr (inl less)) = inl (inr (at, less))
      by_rank at (inr (inr more)) = inr (inr (sym at, more))

      by_place : (a.at ≡ b.at) ⊎ (a.at < b.at) ⊎ (b.at < a.at) → PlacedBefore u v ⊎ PlacedBefore v u
      by_place (inl at) = by_rank at (cases_order a.rank b.rank)
      by_place (inr (inl less)) = inl (inl less)
      by_place (inr (inr more)) = inr (inl more)

  -- the same with `init` in front
  abbrev Before : ℕ → ℕ → Type 0
  Before u v = (u ≤ event_total t) × (v ≤ event_total t) × (0 < v) × ((u ≡ 0) ⊎ ((0 < u) × PlacedBefore u v))

  Before-decided : (u v : ℕ) → Decision (Before u v)
  Before-decided u v =
      Decision-four (within u) (within v) (Decision-lt 0 v) (Decision-either (cases_eq u 0) (Decision-both (Decision-lt 0 u) (PlacedBefore-decided u v)))
    where
      within : (n : ℕ) → Decision (n ≤ event_total t)
      within n = Decision-iff (λ h. omega (arith, h)) (λ h. omega (arith, h)) (Decision-lt n (suc (event_total t)))

  Before-join : (u v w : ℕ) → Before u v → Before v w → Before u w
  Before-join u v w one two = (one.0, two.1, two.2, by_cases one.3 two.3)
    where
      above : 0 < v
      above = one.2

      by_cases : (u ≡ 0) ⊎ ((0 < u) × PlacedBefore u v) → (v ≡ 0) ⊎ ((0 < v) × PlacedBefore v w) → (u ≡ 0) ⊎ ((0 < u) × PlacedBefore u w)
      by_cases (inl init) second = inl init
      by_cases (inr first) (inl init) = absurd (omega (arith, init, above))
      by_cases (inr first) (inr second) = inr (first.0, PlacedBefore-join u v w first.1 second.1)

  Before-self : (u : ℕ) → Before u u → ⊥
  Before-self u before = by_cases before.3
    where
      above : 0 < u
      above = before.2

      by_cases : (u ≡ 0) ⊎ ((0 < u) × PlacedBefore u u) → ⊥
      by_cases (inl init) = omega (arith, init, above)
      by_cases (inr less) = PlacedBefore-self u less.1

  extended : (together : List ℕ) × IsMemoryOrder t together × Respects together Before
  extended =
      linear_extension Before Before-decided Before-join Before-self t (λ n event.
      let within = event_at-within t n event.0 event.1 in
      (omega arith, within.1, within.0, inl refl)) (λ u v before. (before.0, before.1))

  module _ (together : List ℕ) (memory : IsMemoryOrder t together) (respects : Respects together Before) where
    before : (u v : ℕ) → IsEvent t u → IsEvent t v → PlacedBefore u v → Before u v
    before u v event_u event_v placed =
        let first = event_at-within t u event_u.0 event_u.1 in
        let second = event_at-within t v event_v.0 event_v.1 in
        (first.1, second.1, second.0, inr (first.0, placed))

    forward : (u v : ℕ) → IsEvent t u → IsEvent t v → PlacedBefore u v → IsUpTo together u v
    forward u v event_u event_v placed =
        up_to_from_before together u v (event_above_zero t u event_u) (respects u v (before u v event_u event_v placed))

    not_backward : (u v : ℕ) → IsEvent t u → IsEvent t v → PlacedBefore u v → IsUpTo together v u → ⊥
    not_backward u v event_u event_v placed =
        before_not_up_to together u v (event_above_zero t u event_u) (respects u v (before u v event_u event_v placed))

    -- a store keeps its place before another event
    store_kept : (u v : ℕ) → IsStore t u → IsEvent t v → IsUpTo order u v → IsUpTo together u v
    store_kept u v store event up_to = elim (cases_eq u v) [
      | inl same ↦ omega (arith, ap (place together) same)
      | inr other ↦ (
          forward u v (store_event t u store) event
          (store_first t order axioms u v (spot t order u) (spot t order v) store (strictly t order axioms u v event other up_to))
          )
    ]

    swap_forward : (l : ℕ) → IsSwapLoad t l → PlacedBefore l (suc l)
    swap_forward l swap = swap_first t order axioms l (spot t order l) (spot t order (suc l)) swap

    earlier_kept : (u v : ℕ) → IsStore t u → Earlier t u v → IsUpTo order u v → IsUpTo together u v
    earlier_kept u v store earlier = store_kept u v store (earlier.1, earlier.3)

    meets_atomicity : MeetsAtomicity t together
    meets_atomicity l s swap store other = by_cases (axioms.atomicity l s swap store other)
      where
        by_cases : IsUpTo order s l ⊎ IsUpTo order (suc l) s → IsUpTo together s l ⊎ IsUpTo together (suc l) s
        by_cases (inl first) = inl (store_kept s l store (swap.0, swap.1) first)
        by_cases (inr last) = inr (store_kept (suc l) s (IsSwapLoad-store t l swap) (store_event t s store) last)

    -- a load sees the same stores
    sees : (s l : ℕ) → IsLoad t l → IsVisible t order s l → IsVisible t together s l
    sees s l load visible = (visible.0, visible.1, by_cases visible.2)
      where
        by_cases : IsUpTo order s l ⊎ Earlier t s l → IsUpTo together s l ⊎ Earlier t s l
        by_cases (inl up_to) = inl (store_kept s l visible.0 (load_event t l load) up_to)
        by_cases (inr earlier) = inr earlier

    saw : (s l : ℕ) → IsLoad t l → IsVisible t together s l → IsVisible t order s l
    saw s l load visible = (visible.0, visible.1, by_cases visible.2)
      where
        by_cases : IsUpTo together s l ⊎ Earlier t s l → IsUpTo order s l ⊎ Earlier t s l
        by_cases (inl up_to) =
            store_seen t order axioms s l (spot t order s) (spot t order l) visible.0 load (λ after.
            not_backward l s (load_event t l load) (store_event t s visible.0) after up_to)
        by_cases (inr earlier) = inr earlier

    reads : (l : ℕ) → IsLoad t l → ReadsGreatest t together l
    reads l load = by_cases (axioms.value l load)
      where
        by_cases : ReadsGreatest t order l → ReadsGreatest t together l
        by_cases (inl first) = inl (first.0, λ s visible. first.1 s (saw s l load visible))
        by_cases (inr some) = inr (
          some.0,
          sees some.0 l load some.1,
          some.2,
          λ other visible. store_kept other some.0 visible.0 (store_event t some.0 some.1.0) (some.3 other (saw other l load visible)),
        )

    model_order : IsModelOrder t together
    model_order = record {
      memory_order = memory;
      load_op = λ u v load earlier.
          forward u v (earlier.0, earlier.2) (earlier.1, earlier.3)
          (load_first t order axioms u v (spot t order u) (spot t order v) load earlier);
      store_store = λ u v store_u store_v earlier keeps. earlier_kept u v store_u earlier (axioms.store_store u v store_u store_v earlier keeps);
      stbar = λ u v store_u store_v earlier fewer. earlier_kept u v store_u earlier (axioms.stbar u v store_u store_v earlier fewer);
      membar = λ u v store load earlier fewer. earlier_kept u v store earlier (axioms.membar u v store load earlier fewer);
      swap = λ l swap. forward l (suc l) (swap.0, swap.1) (store_event t (suc l) (IsSwapLoad-store t l swap)) (swap_forward l swap);
      atomicity = meets_atomicity;
      value = reads;
    }

    -- ---- a swap's events are neighbours

    at_most_once : (n : ℕ) → occurrences n together ≤ 1
    at_most_once n = elim (IsEvent-decided t n) [
      | inl event ↦ omega (arith, memory.once n event)
      | inr none ↦ omega (arith, memory.events n none)
    ]

    listed_event : (n : ℕ) → 0 < occurrences n together → IsEvent t n
    listed_event n listed = elim (IsEvent-decided t n) [
      | inl event ↦ event
      | inr none ↦ absurd (omega (arith, listed, memory.events n none))
    ]

    -- an event that stands later goes later
    later_placed : (u v : ℕ) → IsEvent t u → IsEvent t v → place together u < place together v → PlacedBefore u v
    later_placed u v event_u event_v less =
        let other : u ≡ v → ⊥ = λ same. (let one = ap (place together) same in omega (arith, one, less)) in
        elim (PlacedBefore-total u v event_v other) [
          | inl placed ↦ placed
          | inr back ↦ absurd (not_backward v u event_v event_u back (omega (arith, less)))
        ]

    neighbours : HasSwapsTogether t together
    neighbours l swap = elim (cases_lt (suc (place together l)) (place together (suc l))) [
      | inl apart ↦ (
          let end = place-listed (suc l) together [] (omega (arith, memory.once (suc l) store)) in
          let w = listed_place together (suc (place together l)) at_most_once (omega (arith, apart, end.1)) in
          let event = listed_event w.0 w.1 in
          absurd (nothing_between t order axioms l w.0 (spot t order l) (spot t order w.0) (spot t order (suc l)) swap
          (later_placed l w.0 load event (omega (arith, w.2)))
          (later_placed w.0 (suc l) event store (omega (arith, w.2, apart))))
          )
      | inr near ↦ omega (arith, near, less)
    ]
      where
        load : IsEvent t l
        load = (swap.0, swap.1)

        store : IsEvent t (suc l)
        store = store_event t (suc l) (IsSwapLoad-store t l swap)

        less : place together l < place together (suc l)
        less =
            let first = respects l (suc l) (before l (suc l) load store (swap_forward l swap)) in
            omega (arith, first, place-with_init together l (event_above_zero t l load), place-with_init together (suc l) (event_above_zero t (suc l) store))

  pub together_of : (together : List ℕ) × IsModelOrder t together × HasSwapsTogether t together
  together_of =
      let some = extended in
      (some.0, model_order some.0 some.1 some.2, neighbours some.0 some.1 some.2)

pub order_together : (t : TraceValue) (order : List ℕ) → IsModelOrder t order → (together : List ℕ) × IsModelOrder t together × HasSwapsTogether t together
order_together t order axioms = together_of t order axioms

-- Memory orders by ranks: each event has a number, and comes before those of higher numbers.
use Rattle.std.proofs.Common.{◌≡◌, ◌≢◌, ◌⊎◌, ◌↔◌, ℕ, zero, suc, ◌<◌, ◌≤◌, true, List, inl, inr, ⊎_elim, refl, arith}
use Rattle.std.proofs.lemmas.Bool.{cases_lt}
use Rattle.std.proofs.lemmas.Option.{slice_get-get_or}
use Rattle.tso_ops.specs.Values.{TraceValue}
use Rattle.tso_ops.specs.Events.{event_at, event_total, events_of, IsEvent, IsLoad, IsStore, IsSwapLoad, HasFirstValue, SameAddress, SameValue, Earlier, HasFewerBarriersBefore, HasFewerStbarsBefore, KeepsStores}
use Rattle.tso_ops.proofs.NumberFacts.{event_at-within, load_event, store_event}
use Rattle.tso_ops.proofs.SwapFacts.{IsSwapLoad-store}
use Rattle.tso_model.specs.Axioms.{occurrences, place, IsUpTo, IsModelOrder, IsMemoryOrder, IsConsistent, ReadsGreatest, IsVisible}
use Rattle.tso_model.proofs.Places.{place_same}
use Rattle.log_thinning.proofs.RankedLists.{ranked, ranked-once, ranked-none, ranked-not_zero, ranked-in_order}

-- load l sees store s in the order of the ranks
abbrev pub Sees : TraceValue → (ℕ → ℕ) → ℕ → ℕ → Type 0
Sees t rank s l = IsStore t s × SameAddress t s l × ((rank s ≤ rank l) ⊎ Earlier t s l)

-- it returns the value of the last store that it sees
abbrev pub ReadsLast : TraceValue → (ℕ → ℕ) → ℕ → Type 0
ReadsLast t rank l =
    (HasFirstValue t l × ((s : ℕ) → Sees t rank s l → ⊥))
    ⊎ ((s : ℕ) × Sees t rank s l × SameValue t s l × ((other : ℕ) → Sees t rank other l → rank other ≤ rank s))

-- the axioms of an order, of ranks
pub record IsModelRank (t : TraceValue) (rank : ℕ → ℕ) : Type 0 where
  pub apart : (u v : ℕ) → IsEvent t u → IsEvent t v → rank u ≡ rank v → u ≡ v
  pub load_op : (u v : ℕ) → IsLoad t u → Earlier t u v → rank u ≤ rank v
  pub store_store : (u v : ℕ) → IsStore t u → IsStore t v → Earlier t u v → KeepsStores t u v → rank u ≤ rank v
  pub stbar : (u v : ℕ) → IsStore t u → IsStore t v → Earlier t u v → HasFewerStbarsBefore t u v → rank u ≤ rank v
  pub membar : (u v : ℕ) → IsStore t u → IsLoad t v → Earlier t u v → HasFewerBarriersBefore t u v → rank u ≤ rank v
  pub swap : (l : ℕ) → IsSwapLoad t l → rank l ≤ rank (suc l)
  pub atomicity : (l s : ℕ) → IsSwapLoad t l → IsStore t s → s ≢ suc l → (rank s ≤ rank l) ⊎ (rank (suc l) ≤ rank s)
  pub value : (l : ℕ) → IsLoad t l → ReadsLast t rank l

-- the places of an order are such ranks
pub ranks_of_order : (t : TraceValue) (order : List ℕ) → IsModelOrder t order → IsModelRank t (place order)
ranks_of_order t order right = record {
  apart = λ u v event_u event_v same. place_same order u v (let once = right.memory_order.once v event_v in omega (arith, once)) same;
  load_op = right.load_op;
  store_store = right.store_store;
  stbar = right.stbar;
  membar = right.membar;
  swap = right.swap;
  atomicity = right.atomicity;
  value = right.value;
}

-- each number from 1 to the number of events is one
event_of_number : (t : TraceValue) (n : ℕ) → 0 < n → n ≤ event_total t → IsEvent t n
unfolding event_at
event_of_number t zero above low = absurd (omega arith)
event_of_number t (suc k) above low =
    (_, slice_get-get_or (events_of t) k (record { proc = 0; load = true; swap = true; a = 0; value = 0; bars = 0; stbars = 0 }) (omega (arith, low)))

-- other numbers aren't
number_of_none : (t : TraceValue) (n : ℕ) → (IsEvent t n → ⊥) → (n ≡ 0) ⊎ (event_total t < n)
number_of_none t zero none = inl refl
number_of_none t (suc k) none = elim (cases_lt (event_total t) (suc k)) [
  | inl above ↦ inr above
  | inr low ↦ absurd (none (event_of_number t (suc k) (omega arith) low))
]

module _ (t : TraceValue) (rank : ℕ → ℕ) (right : IsModelRank t rank) where
  -- the events in the order of their ranks
  order : List ℕ
  order = ranked rank (event_total t)

  -- they stand there as their ranks say
  in_order : (u v : ℕ) → IsEvent t u → IsEvent t v → IsUpTo order u v ↔ (rank u ≤ rank v)
  unfolding order
  in_order u v event_u event_v =
      let within_u = event_at-within t u event_u.0 event_u.1 in
      let within_v = event_at-within t v event_v.0 event_v.1 in
      ranked-in_order rank (event_total t)
      (λ x y above_x low_x above_y low_y same. right.apart x y (event_of_number t x above_x low_x) (event_of_number t y above_y low_y) same)
      u v within_u.0 within_u.1 within_v.0 within_v.1

  -- each stands there once
  memory_order : IsMemoryOrder t order
  unfolding order
  memory_order = record {
    once = λ n event. let within = event_at-within t n event.0 event.1 in ranked-once rank (event_total t) n within.0 within.1;
    events = λ n none. outside n (number_of_none t n none);
  }
    where
      outside : (n : ℕ) → (n ≡ 0) ⊎ (event_total t < n) → occurrences n order ≡ 0
      outside n (inl is) = rw is (ranked-not_zero rank (event_total t))
      outside n (inr above) = ranked-none rank (event_total t) n above

  -- a load sees the same stores
  sees : (s l : ℕ) → IsLoad t l → IsVisible t order s l → Sees t rank s l
  sees s l load (store, address, seen) =
      (store, address, ⊎_elim (λ up_to. inl ((in_order s l (store_event t s store) (load_event t l load)).0 up_to)) (λ earlier. inr earlier) seen)

  -- and no others
  visible : (s l : ℕ) → IsLoad t l → Sees t rank s l → IsVisible t order s l
  visible s l load (store, address, seen) =
      (store, address, ⊎_elim (λ low. inl ((in_order s l (store_event t s store) (load_event t l load)).1 low)) (λ earlier. inr earlier) seen)

  -- so it reads the same
  reads : (l : ℕ) → IsLoad t l → ReadsLast t rank l → ReadsGreatest t order l
  reads l load (inl (first, none)) = inl (first, λ s seen. none s (sees s l load seen))
  reads l load (inr (s, seen, value, last)) = inr (
    s,
    visible s l load seen,
    value,
    λ other other_seen. (in_order other s (store_event t other other_seen.0) (store_event t s seen.0)).1 (last other (sees other l load other_seen)),
  )

  -- the events in the order of their ranks are an order that meets the axioms
  model_order : IsModelOrder t order
  model_order = record {
    memory_order = memory_order;
    load_op = λ u v load earlier. (in_order u v (earlier.0, earlier.2) (earlier.1, earlier.3)).1 (right.load_op u v load earlier);
    store_store = λ u v first second earlier keeps. (in_order u v (earlier.0, earlier.2) (earlier.1, earlier.3)).1 (right.store_store u v first second earlier keeps);
    stbar = λ u v first second earlier fewer. (in_order u v (earlier.0, earlier.2) (earlier.1, earlier.3)).1 (right.stbar u v first second earlier fewer);
    membar = λ u v store load earlier fewer. (in_order u v (earlier.0, earlier.2) (earlier.1, earlier.3)).1 (right.membar u v store load earlier fewer);
    swap = λ l swap. (in_order l (suc l) (swap.0, swap.1) (store_event t (suc l) (IsSwapLoad-store t l swap))).1 (right.swap l swap);
    atomicity = λ l s swap store other.
        ⊎_elim
        (λ low. inl ((in_order s l (store_event t s store) (swap.0, swap.1)).1 low))
        (λ high. inr ((in_order (suc l) s (store_event t (suc l) (IsSwapLoad-store t l swap)) (store_event t s store)).1 high))
        (right.atomicity l s swap store other);
    value = λ l load. reads l load (right.value l load);
  }

-- a trace whose events have such ranks is consistent
pub order_of_ranks : (t : TraceValue) (rank : ℕ → ℕ) → IsModelRank t rank → IsConsistent t
order_of_ranks t rank right = (order t rank right, model_order t rank right)

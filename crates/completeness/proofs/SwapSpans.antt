-- Where each event of an order is to go so that a swap's two events are neighbours: to the swap's store go its load, in front of the store, and the
-- events of its processor that stand between the two, behind the store; all other events stay.
use Rattle.std.proofs.Common.{◌≡◌, ◌∙◌, ◌⊎◌, inl, inr, refl, sym, ap, subst, ℕ, suc, ◌<◌, ◌≤◌, List, arith}
use Rattle.std.proofs.lemmas.Bool.{cases_eq, cases_lt}
use Rattle.order_paths.proofs.Decisions.{Decision, Decision-iff, Decision-three, Decision-either, Decision-lt, Decision-some}
use Rattle.tso_ops.specs.declared.events.Event.{Event}
use Rattle.tso_ops.specs.Values.{TraceValue}
use Rattle.tso_ops.specs.Events.{event_total, IsEvent, IsLoad, IsStore, IsSwapLoad, Earlier}
use Rattle.tso_ops.proofs.NumberFacts.{event_unique, load_is_no_store, store_event}
use Rattle.tso_ops.proofs.SwapFacts.{IsSwapLoad-store, IsSwapLoad-within}
use Rattle.tso_model.specs.Axioms.{occurrences, place, IsUpTo, IsModelOrder}
use Rattle.tso_model.proofs.Decided.{Earlier-decided, IsStore-decided, IsSwapLoad-decided}
use Rattle.tso_model.proofs.Places.{place_same}
use Rattle.completeness.proofs.SwapProcessors.{swap_earlier}

-- event n is the load of the swap, or a later one of its processor that stands no later than the swap's store
abbrev pub IsCovered : TraceValue → List ℕ → ℕ → ℕ → Type 0
IsCovered t order l n = IsSwapLoad t l × ((l ≡ n) ⊎ Earlier t l n) × IsUpTo order n (suc l)

-- Event n goes to this place: that of the store of the swap that covers it, or else its own.
abbrev pub GoesTo : TraceValue → List ℕ → ℕ → ℕ → Type 0
GoesTo t order n at = ((l : ℕ) × IsCovered t order l n × (at ≡ place order (suc l))) ⊎ (((l : ℕ) → IsCovered t order l n → ⊥) × (at ≡ place order n))

-- It has this rank among the events that go there: first a swap's load, then its store, then the others in their order.
abbrev pub IsRankOf : TraceValue → List ℕ → ℕ → ℕ → Type 0
IsRankOf t order n rank =
    (IsSwapLoad t n × (rank ≡ 0)) ⊎ (IsStore t n × (rank ≡ 1)) ⊎ ((IsSwapLoad t n → ⊥) × (IsStore t n → ⊥) × (rank ≡ suc (suc (place order n))))

-- The place that the event goes to, which is an event's place in the order, and its rank among those that go there.
pub record Spot (t : TraceValue) (order : List ℕ) (n : ℕ) : Type 0 where
  pub at : ℕ
  pub rank : ℕ
  pub at_is : GoesTo t order n at
  pub rank_is : IsRankOf t order n rank

-- the first event goes before the second: to an earlier place, or to the same one with a lower rank
abbrev pub IsPlacedBefore : {t : TraceValue} {order : List ℕ} {u v : ℕ} → Spot t order u → Spot t order v → Type 0
IsPlacedBefore a b = (a.at < b.at) ⊎ ((a.at ≡ b.at) × (a.rank < b.rank))

-- a swap's load is a load
pub swap_load : (t : TraceValue) (l : ℕ) → IsSwapLoad t l → IsLoad t l
swap_load t l swap = (swap.0, swap.1, swap.2)

-- program order is transitive
pub earlier_join : (t : TraceValue) (u v w : ℕ) → Earlier t u v → Earlier t v w → Earlier t u w
earlier_join t u v w one two =
    let less : u < v = one.5 in
    let less_too : v < w = two.5 in
    (one.0, two.1, one.2, two.3, one.4 ∙ ap (λ (e : Event). e.proc) (event_unique t v one.1 two.0 one.3 two.2) ∙ two.4, omega (arith, less, less_too))

-- ---- the places

IsCovered-decided : (t : TraceValue) (order : List ℕ) (l n : ℕ) → Decision (IsCovered t order l n)
IsCovered-decided t order l n =
    Decision-three (IsSwapLoad-decided t l) (Decision-either (cases_eq l n) (Earlier-decided t l n))
    (Decision-iff (λ h. omega (arith, h)) (λ h. omega (arith, h)) (Decision-lt (place order n) (suc (place order (suc l)))))

pub spot : (t : TraceValue) (order : List ℕ) (n : ℕ) → Spot t order n
spot t order n =
    by_cases
    (Decision-some (λ l. IsCovered t order l n) (λ l. IsCovered-decided t order l n) (suc (event_total t)) (λ l covered. (IsSwapLoad-within t l covered.0).0))
    (IsSwapLoad-decided t n) (IsStore-decided t n)
  where
    by_rank : (at : ℕ) → GoesTo t order n at → Decision (IsSwapLoad t n) → Decision (IsStore t n) → Spot t order n
    by_rank at is (inl swap) store = record { at = at; rank = 0; at_is = is; rank_is = inl (swap, refl) }
    by_rank at is (inr no_swap) (inl store) = record { at = at; rank = 1; at_is = is; rank_is = inr (inl (store, refl)) }
    by_rank at is (inr no_swap) (inr no_store) = record { at = at; rank = suc (suc (place order n)); at_is = is; rank_is = inr (inr (no_swap, no_store, refl)) }

    by_cases : Decision ((l : ℕ) × IsCovered t order l n) → Decision (IsSwapLoad t n) → Decision (IsStore t n) → Spot t order n
    by_cases (inl some) swap store = by_rank (place order (suc some.0)) (inl (some.0, some.1, refl)) swap store
    by_cases (inr none) swap store = by_rank (place order n) (inr (λ l covered. none (l, covered), refl)) swap store

-- ---- what is so of them in an order of the model

module _ (t : TraceValue) (order : List ℕ) (axioms : IsModelOrder t order) where
  listed : (n : ℕ) → IsEvent t n → 0 < occurrences n order
  listed n event = omega (arith, axioms.memory_order.once n event)

  -- one place has one event
  pub one_event : (u v : ℕ) → IsEvent t v → place order u ≡ place order v → u ≡ v
  one_event u v event same = place_same order u v (listed v event) same

  -- an event that stands no later than another is that one or stands before it
  pub strictly : (u v : ℕ) → IsEvent t v → (u ≡ v → ⊥) → IsUpTo order u v → place order u < place order v
  strictly u v event other up_to =
      let apart : place order u ≡ place order v → ⊥ = λ same. other (one_event u v event same) in
      omega (arith, up_to, apart)

  -- an event that a swap covers stands no earlier than its load
  from_load : (l n : ℕ) → IsCovered t order l n → IsUpTo order l n
  from_load l n covered = by_cases covered.1
    where
      by_cases : (l ≡ n) ⊎ Earlier t l n → IsUpTo order l n
      by_cases (inl same) = subst (λ k. IsUpTo order l k) same (omega arith)
      by_cases (inr earlier) = axioms.load_op l n (swap_load t l covered.0) earlier

  -- a swap's load isn't another's store
  no_store_of : (l m : ℕ) → IsSwapLoad t l → IsSwapLoad t m → l ≡ suc m → ⊥
  no_store_of l m swap other same =
      load_is_no_store t (suc m) (subst (IsLoad t) same (swap_load t l swap)) (IsSwapLoad-store t m other)

  swap_event : (l : ℕ) → IsSwapLoad t l → IsEvent t l
  swap_event l swap = (swap.0, swap.1)

  swap_store_event : (l : ℕ) → IsSwapLoad t l → IsEvent t (suc l)
  swap_store_event l swap = store_event t (suc l) (IsSwapLoad-store t l swap)

  -- the spans of two swaps have no event in common
  pub one_cover : (l m n : ℕ) → IsCovered t order l n → IsCovered t order m n → l ≡ m
  one_cover l m n first second = by_cases (cases_eq l m)
    where
      low : place order l ≤ place order n
      low = from_load l n first

      low_too : place order m ≤ place order n
      low_too = from_load m n second

      high : place order n ≤ place order (suc l)
      high = first.2

      high_too : place order n ≤ place order (suc m)
      high_too = second.2

      by_order : (l ≡ m → ⊥) → IsUpTo order (suc m) l ⊎ IsUpTo order (suc l) (suc m) → IsUpTo order (suc l) m ⊎ IsUpTo order (suc m) (suc l) → l ≡ m
      by_order other (inl before) rest =
          absurd (no_store_of l m first.0 second.0 (one_event l (suc m) (swap_store_event m second.0) (omega (arith, before, low, high_too))))
      by_order other (inr after) (inl before) =
          absurd (no_store_of m l second.0 first.0 (one_event m (suc l) (swap_store_event l first.0) (omega (arith, before, low_too, high))))
      by_order other (inr after) (inr before) =
          let same : suc l ≡ suc m = one_event (suc l) (suc m) (swap_store_event m second.0) (omega (arith, after, before)) in omega (arith, same)

      by_cases : (l ≡ m) ⊎ (l ≡ m → ⊥) → l ≡ m
      by_cases (inl same) = same
      by_cases (inr other) =
          by_order other
          (axioms.atomicity l (suc m) first.0 (IsSwapLoad-store t m second.0) (λ same. other (omega (arith, same))))
          (axioms.atomicity m (suc l) second.0 (IsSwapLoad-store t l first.0) (λ same. other (omega (arith, same))))

  -- a covered event goes to the swap's store
  pub at_store : (l n : ℕ) (s : Spot t order n) → IsCovered t order l n → s.at ≡ place order (suc l)
  at_store l n s covered = by_cases s.at_is
    where
      by_cases : GoesTo t order n s.at → s.at ≡ place order (suc l)
      by_cases (inl some) = some.2 ∙ ap (λ k. place order (suc k)) (one_cover some.0 l n some.1 covered)
      by_cases (inr none) = absurd (none.0 l covered)

  covers_own : (l : ℕ) → IsSwapLoad t l → IsCovered t order l l
  covers_own l swap = (swap, inl refl, axioms.swap l swap)

  pub at_swap : (l : ℕ) (s : Spot t order l) → IsSwapLoad t l → s.at ≡ place order (suc l)
  at_swap l s swap = at_store l l s (covers_own l swap)

  -- no event goes to an earlier place
  pub at_least : (n : ℕ) (s : Spot t order n) → place order n ≤ s.at
  at_least n s = by_cases s.at_is
    where
      by_cases : GoesTo t order n s.at → place order n ≤ s.at
      by_cases (inl some) = let high : place order n ≤ place order (suc some.0) = some.1.2 in omega (arith, high, some.2)
      by_cases (inr none) = omega (arith, none.1)

  -- the only store that a swap covers is its own
  pub covered_store : (l n : ℕ) → IsStore t n → IsCovered t order l n → n ≡ suc l
  covered_store l n store covered = by_cases (cases_eq n (suc l))
    where
      by_order : (n ≡ suc l → ⊥) → IsUpTo order n l ⊎ IsUpTo order (suc l) n → n ≡ suc l
      by_order other (inl before) =
          let same : n ≡ l = one_event n l (swap_event l covered.0) (omega (arith, before, from_load l n covered)) in
          absurd (load_is_no_store t n (subst (IsLoad t) (sym same) (swap_load t l covered.0)) store)
      by_order other (inr after) = one_event n (suc l) (swap_store_event l covered.0) (omega (arith, after, covered.2))

      by_cases : (n ≡ suc l) ⊎ (n ≡ suc l → ⊥) → n ≡ suc l
      by_cases (inl same) = same
      by_cases (inr other) = by_order other (axioms.atomicity l n covered.0 store other)

  -- a store stays
  pub at_own : (n : ℕ) (s : Spot t order n) → IsStore t n → s.at ≡ place order n
  at_own n s store = by_cases s.at_is
    where
      by_cases : GoesTo t order n s.at → s.at ≡ place order n
      by_cases (inl some) = some.2 ∙ ap (place order) (sym (covered_store some.0 n store some.1))
      by_cases (inr none) = none.1

  -- ---- which pairs keep their order

  -- a store that stands before another event
  pub store_first : (u v : ℕ) (a : Spot t order u) (b : Spot t order v) → IsStore t u → place order u < place order v → IsPlacedBefore a b
  store_first u v a b store less = inl (omega (arith, less, at_own u a store, at_least v b))

  -- a swap's load and its store
  pub swap_first : (l : ℕ) (a : Spot t order l) (b : Spot t order (suc l)) → IsSwapLoad t l → IsPlacedBefore a b
  swap_first l a b swap = inr (at_swap l a swap ∙ sym (at_own (suc l) b (IsSwapLoad-store t l swap)), by_ranks a.rank_is b.rank_is)
    where
      by_ranks : IsRankOf t order l a.rank → IsRankOf t order (suc l) b.rank → a.rank < b.rank
      by_ranks (inr (inl first)) second = absurd (load_is_no_store t l (swap_load t l swap) first.0)
      by_ranks (inr (inr first)) second = absurd (first.0 swap)
      by_ranks (inl first) (inl second) = absurd (load_is_no_store t (suc l) (swap_load t (suc l) second.0) (IsSwapLoad-store t l swap))
      by_ranks (inl first) (inr (inl second)) = omega (arith, first.1, second.1)
      by_ranks (inl first) (inr (inr second)) = omega (arith, first.1, second.2)

  -- a load and a program-later event
  module _ (u v : ℕ) (a : Spot t order u) (b : Spot t order v) (load : IsLoad t u) (earlier : Earlier t u v) where
    less : place order u < place order v
    less =
        let below : u < v = earlier.5 in
        strictly u v (earlier.1, earlier.3) (λ same. omega (arith, same, below)) (axioms.load_op u v load earlier)

    -- where one swap covers both
    ranked : (l : ℕ) → IsCovered t order l u → IsCovered t order l v → a.rank < b.rank
    ranked l first second = by_ranks a.rank_is b.rank_is
      where
        -- u is the swap's load or a later event
        from : l ≤ u
        from = elim first.1 [
          | inl same ↦ omega (arith, same)
          | inr later ↦ let below : l < u = later.5 in omega (arith, below)
        ]

        below : u < v
        below = earlier.5

        by_ranks : IsRankOf t order u a.rank → IsRankOf t order v b.rank → a.rank < b.rank
        by_ranks one (inl two) =
            let same : v ≡ l = one_cover v l v (covers_own v two.0) second in absurd (omega (arith, same, from, below))
        by_ranks (inl one) (inr (inl two)) = omega (arith, one.1, two.1)
        by_ranks (inl one) (inr (inr two)) = omega (arith, one.1, two.2)
        by_ranks (inr (inl one)) two = absurd (load_is_no_store t u load one.0)
        by_ranks (inr (inr one)) (inr (inl two)) =
            let own : v ≡ suc l = covered_store l v two.0 second in
            let same : l ≡ u = omega (arith, own, from, below) in
            absurd (one.0 (subst (IsSwapLoad t) same first.0))
        by_ranks (inr (inr one)) (inr (inr two)) = omega (arith, one.2, two.2, less)

    by_span : (l : ℕ) → IsCovered t order l u → a.at ≡ place order (suc l) → IsPlacedBefore a b
    by_span l first is = elim (cases_lt (place order (suc l)) (place order v)) [
      | inl past ↦ inl (omega (arith, past, is, at_least v b))
      | inr within ↦
          let second : IsCovered t order l v = (first.0, inr (joined first.1), omega (arith, within)) in
          inr (is ∙ sym (at_store l v b second), ranked l first second)
    ]
      where
        joined : (l ≡ u) ⊎ Earlier t l u → Earlier t l v
        joined (inl same) = subst (λ k. Earlier t k v) (sym same) earlier
        joined (inr before) = earlier_join t l u v before earlier

    pub load_first : IsPlacedBefore a b
    load_first = elim a.at_is [
      | inl some ↦ by_span some.0 some.1 some.2
      | inr none ↦ inl (omega (arith, none.1, less, at_least v b))
    ]

  -- ---- which stores a load sees

  -- a store that goes before a load stands before it, or is program-earlier
  pub store_seen : (s l : ℕ) (a : Spot t order s) (b : Spot t order l) → IsStore t s → IsLoad t l → (IsPlacedBefore b a → ⊥) → IsUpTo order s l ⊎ Earlier t s l
  store_seen s l a b store load not_after = elim (cases_lt (place order l) (place order s)) [
    | inl past ↦ past_load past b.at_is
    | inr up_to ↦ inl (omega (arith, up_to))
  ]
    where
      by_store : (m : ℕ) → IsCovered t order m l → s ≡ suc m → IsUpTo order s l ⊎ Earlier t s l
      by_store m covered same = elim covered.1 [
        | inl own ↦
            absurd (not_after (swap_after own))
        | inr later ↦
            let swap = swap_earlier t m covered.0 in
            let below : m < l = later.5 in
            let other : suc m ≡ l → ⊥ = λ is. load_is_no_store t l load (subst (IsStore t) is (IsSwapLoad-store t m covered.0)) in
            let proc = ap (λ (e : Event). e.proc) (event_unique t m swap.0 later.0 swap.2 later.2) in
            inr (subst (λ k. Earlier t k l) (sym same) (swap.1, later.1, swap.3, later.3, sym swap.4 ∙ proc ∙ later.4, omega (arith, below, other)))
      ]
        where
          swap_after : m ≡ l → IsPlacedBefore b a
          swap_after own =
              let swap : IsSwapLoad t l = subst (IsSwapLoad t) own covered.0 in
              let is : s ≡ suc l = same ∙ ap suc own in
              (subst (λ k. (c : Spot t order k) → IsPlacedBefore b c) (sym is) (λ c. swap_first l b c swap)) a

      by_order : (m : ℕ) → IsCovered t order m l → b.at ≡ place order (suc m) → place order l < place order s → (s ≡ suc m → ⊥) →
          IsUpTo order s m ⊎ IsUpTo order (suc m) s → IsUpTo order s l ⊎ Earlier t s l
      by_order m covered is past other (inl before) = absurd (omega (arith, before, past, from_load m l covered))
      by_order m covered is past other (inr after) =
          let beyond : place order (suc m) < place order s = strictly (suc m) s (store_event t s store) (λ same. other (sym same)) after in
          absurd (not_after (inl (omega (arith, is, beyond, at_own s a store))))

      past_load : place order l < place order s → GoesTo t order l b.at → IsUpTo order s l ⊎ Earlier t s l
      past_load past (inr none) = absurd (not_after (inl (omega (arith, none.1, past, at_own s a store))))
      past_load past (inl some) = elim (cases_eq s (suc some.0)) [
        | inl same ↦ by_store some.0 some.1 same
        | inr other ↦ by_order some.0 some.1 some.2 past other (axioms.atomicity some.0 s some.1.0 store other)
      ]

  -- two events don't go to one place with one rank
  pub one_spot : (u v : ℕ) (a : Spot t order u) (b : Spot t order v) → IsEvent t v → a.at ≡ b.at → a.rank ≡ b.rank → u ≡ v
  one_spot u v a b event at rank = by_ranks a.rank_is b.rank_is
    where
      by_ranks : IsRankOf t order u a.rank → IsRankOf t order v b.rank → u ≡ v
      by_ranks (inl one) (inl two) =
          let same : suc u ≡ suc v = one_event (suc u) (suc v) (swap_store_event v two.0) (sym (at_swap u a one.0) ∙ at ∙ at_swap v b two.0) in omega (arith, same)
      by_ranks (inl one) (inr (inl two)) = absurd (omega (arith, one.1, two.1, rank))
      by_ranks (inl one) (inr (inr two)) = absurd (omega (arith, one.1, two.2, rank))
      by_ranks (inr (inl one)) (inl two) = absurd (omega (arith, one.1, two.1, rank))
      by_ranks (inr (inl one)) (inr (inl two)) = one_event u v event (sym (at_own u a one.0) ∙ at ∙ at_own v b two.0)
      by_ranks (inr (inl one)) (inr (inr two)) = absurd (omega (arith, one.1, two.2, rank))
      by_ranks (inr (inr one)) (inl two) = absurd (omega (arith, one.2, two.1, rank))
      by_ranks (inr (inr one)) (inr (inl two)) = absurd (omega (arith, one.2, two.1, rank))
      by_ranks (inr (inr one)) (inr (inr two)) = one_event u v event (omega (arith, one.2, two.2, rank))

  -- no event goes between a swap's load and its store
  pub nothing_between : (l w : ℕ) (a : Spot t order l) (b : Spot t order w) (c : Spot t order (suc l)) → IsSwapLoad t l → IsPlacedBefore a b → IsPlacedBefore b c → ⊥
  nothing_between l w a b c swap first second = by_ranks c.rank_is first second
    where
      at : a.at ≡ c.at
      at = at_swap l a swap ∙ sym (at_own (suc l) c (IsSwapLoad-store t l swap))

      ranks : c.rank ≡ 1 → IsPlacedBefore a b → IsPlacedBefore b c → ⊥
      ranks one (inl less) (inl more) = omega (arith, at, less, more)
      ranks one (inl less) (inr more) = omega (arith, at, less, more.0)
      ranks one (inr less) (inl more) = omega (arith, at, less.0, more)
      ranks one (inr less) (inr more) = omega (arith, one, less.1, more.1)

      by_ranks : IsRankOf t order (suc l) c.rank → IsPlacedBefore a b → IsPlacedBefore b c → ⊥
      by_ranks (inl load) = absurd (load_is_no_store t (suc l) (swap_load t (suc l) load.0) (IsSwapLoad-store t l swap))
      by_ranks (inr (inl store)) = ranks store.1
      by_ranks (inr (inr other)) = absurd (other.1 (IsSwapLoad-store t l swap))

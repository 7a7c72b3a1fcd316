-- Where the loads of an order go when both halves of each swap stand side by side: a swap's load goes to its store, and so does a later load of its
-- processor that stood between the two.
use Rattle.std.proofs.Common.{◌≡◌, ◌≢◌, ◌⊎◌, ◌∙◌, ℕ, suc, ◌+◌, ◌*◌, ◌<◌, ◌≤◌, inl, inr, refl, sym, ap, subst, arith}
use Rattle.std.proofs.lemmas.Bool.{cases_eq, cases_lt}
use Rattle.order_paths.proofs.Decisions.{Decision, Decision-both, Decision-not, Decision-some}
use Rattle.tso_ops.specs.declared.settings.Order.TheVariants.{Tso}
use Rattle.tso_ops.specs.Values.{TraceValue}
use Rattle.tso_ops.specs.Events.{event_total, IsEvent, IsLoad, IsStore, IsSwapLoad, Earlier, HasFewerBarriersBefore, HasFewerStbarsBefore}
use Rattle.tso_ops.proofs.NumberFacts.{IsEvent-within, load_event, store_event, load_is_no_store}
use Rattle.tso_ops.proofs.SwapFacts.{IsSwapLoad-store, IsSwapLoad-earlier}
use Rattle.tso_model.proofs.Decided.{IsLoad-decided, IsSwapLoad-decided}
use Rattle.log_thinning.proofs.AlikeOrders.{OfOneProcessor, one_processor_back, one_processor_chain, one_processor_earlier, earlier_one_processor, OfOneProcessor-decided}
use Rattle.log_thinning.proofs.PairRanks.{pair_up, pair_first}
use Rattle.log_thinning.proofs.QuietOrders.{low_decided}

-- The axioms of an order but for values, of ranks. The memory model keeps the order of two stores where it is TSO, or both share a cell.
pub record IsWideRank (t : TraceValue) (Share : ℕ → ℕ → Type 0) (rank : ℕ → ℕ) : Type 0 where
  pub apart : (u v : ℕ) → IsEvent t u → IsEvent t v → rank u ≡ rank v → u ≡ v
  pub load_op : (u v : ℕ) → IsLoad t u → Earlier t u v → rank u ≤ rank v
  pub store_store : (u v : ℕ) → IsStore t u → IsStore t v → Earlier t u v → (t.setting.order ≡ Tso) ⊎ Share u v → rank u ≤ rank v
  pub stbar : (u v : ℕ) → IsStore t u → IsStore t v → Earlier t u v → HasFewerStbarsBefore t u v → rank u ≤ rank v
  pub membar : (u v : ℕ) → IsStore t u → IsLoad t v → Earlier t u v → HasFewerBarriersBefore t u v → rank u ≤ rank v
  pub swap : (l : ℕ) → IsSwapLoad t l → rank l ≤ rank (suc l)
  pub atomicity : (l s : ℕ) → IsSwapLoad t l → IsStore t s → s ≢ suc l → (rank s ≤ rank l) ⊎ (rank (suc l) ≤ rank s)

-- All ranks are below the bound.
module _ (t : TraceValue) (Share : ℕ → ℕ → Type 0) (rank : ℕ → ℕ) (right : IsWideRank t Share rank) (bound : ℕ) (below : (n : ℕ) → rank n < bound) where
  -- a load and a store have different ranks
  unlike : (l s : ℕ) → IsLoad t l → IsStore t s → rank l ≡ rank s → ⊥
  unlike l s load store same = load_is_no_store t l load (subst (IsStore t) (sym (right.apart l s (load_event t l load) (store_event t s store) same)) store)

  -- a swap's load is one
  swap_is_load : (l : ℕ) → IsSwapLoad t l → IsLoad t l
  swap_is_load l swap = (swap.0, swap.1, swap.2)

  -- Load m is the load l of a swap, or a later one of its processor, and stands before the swap's store.
  abbrev Holds : ℕ → ℕ → Type 0
  Holds m l = (IsSwapLoad t l × OfOneProcessor t l m) × ((l ≤ m) × (rank m ≤ rank (suc l)))

  -- some swap is such a one
  abbrev IsHeld : ℕ → Type 0
  IsHeld m = IsLoad t m × ((l : ℕ) × Holds m l)

  -- whether one is is decided
  held_decided : (m : ℕ) → Decision (IsHeld m)
  held_decided m =
      Decision-both (IsLoad-decided t m)
      (Decision-some (Holds m)
      (λ l. Decision-both (Decision-both (IsSwapLoad-decided t l) (OfOneProcessor-decided t l m)) (Decision-both (low_decided l m) (low_decided (rank m) (rank (suc l)))))
      (suc (event_total t)) (λ l p. IsEvent-within t l (p.0.0.0, p.0.0.1)))

  -- the rank of that swap's store, or the load's own
  home_as : (m : ℕ) → Decision (IsHeld m) → ℕ
  home_as m (inl held) = rank (suc held.1.0)
  home_as m (inr none) = rank m

  -- where event m goes
  pub home : ℕ → ℕ
  home m = home_as m (held_decided m)

  -- such a swap's load stands before
  swap_before : (m i : ℕ) → Holds m i → rank i ≤ rank m
  swap_before m i ((swap, own), (up, low)) = elim (cases_eq i m) [
    | inl same ↦ (let is : rank i ≡ rank m = ap rank same in omega (arith, is))
    | inr other ↦ right.load_op i m (swap_is_load i swap) (one_processor_earlier t i m own (omega (arith, up, other)))
  ]

  -- all such swaps have one store
  one_swap : (m i j : ℕ) → IsLoad t m → Holds m i → Holds m j → rank (suc i) ≤ rank (suc j)
  one_swap m i j load first second = elim (cases_eq (suc j) (suc i)) [
    | inl same ↦ (let is : rank (suc j) ≡ rank (suc i) = ap rank same in omega (arith, is))
    | inr other ↦ elim (right.atomicity i (suc j) first.0.0 (IsSwapLoad-store t j second.0.0) other) [
      | inr low ↦ low
      | inl before ↦ absurd (
          let here = swap_before m i first in
          let there = second.1.1 in
          unlike m (suc j) load (IsSwapLoad-store t j second.0.0) (omega (arith, before, here, there))
          )
    ]
  ]

  -- where a load goes that such a swap holds
  home-held : (m i : ℕ) → IsLoad t m → Holds m i → home m ≡ rank (suc i)
  unfolding home home_as
  home-held m i load holds = by_cases (held_decided m)
    where
      by_cases : (decision : Decision (IsHeld m)) → home_as m decision ≡ rank (suc i)
      by_cases (inl held) =
          let up = one_swap m held.1.0 i load held.1.1 holds in
          let down = one_swap m i held.1.0 load holds held.1.1 in
          omega (arith, up, down)
      by_cases (inr none) = absurd (none (load, (i, holds)))

  -- an event stays, or goes to such a swap's store
  home-cases : (m : ℕ) → (home m ≡ rank m) ⊎ (IsLoad t m × ((i : ℕ) × Holds m i × (home m ≡ rank (suc i))))
  unfolding home home_as
  home-cases m = by_cases (held_decided m)
    where
      by_cases : (decision : Decision (IsHeld m)) → (home_as m decision ≡ rank m) ⊎ (IsLoad t m × ((i : ℕ) × Holds m i × (home_as m decision ≡ rank (suc i))))
      by_cases (inl held) = inr (held.0, (held.1.0, held.1.1, refl))
      by_cases (inr none) = inl refl

  -- none goes to the front
  home-up : (m : ℕ) → rank m ≤ home m
  home-up m = elim (home-cases m) [
    | inl same ↦ omega (arith, same)
    | inr held ↦ (let low = held.1.1.1.1 in let is = held.1.2 in omega (arith, low, is))
  ]

  -- stores stay
  home-store : (s : ℕ) → IsStore t s → home s ≡ rank s
  home-store s store = elim (home-cases s) [ inl same ↦ same | inr held ↦ absurd (load_is_no_store t s held.0 store) ]

  -- a swap's load goes to its store
  home-swap : (l : ℕ) → IsSwapLoad t l → home l ≡ rank (suc l)
  home-swap l swap = home-held l l (swap_is_load l swap) ((swap, (swap.0, swap.0, swap.1, swap.1, refl)), (omega arith, right.swap l swap))

  -- a later load goes no further to the front
  home-loads : (l m : ℕ) → IsLoad t l → IsLoad t m → Earlier t l m → home l ≤ home m
  home-loads l m first second earlier = elim (home-cases l) [
    | inl same ↦ (let low = right.load_op l m first earlier in let up = home-up m in omega (arith, same, low, up))
    | inr held ↦ (
        let i = held.1.0 in
        let is = held.1.2 in
        elim (cases_lt (rank (suc i)) (rank m)) [
          | inl less ↦ (let up = home-up m in omega (arith, is, less, up))
          | inr low ↦ (
              let holds = held.1.1 in
              let less = earlier.5 in
              let up = holds.1.0 in
              let there = home-held m i second
              ((holds.0.0, one_processor_chain t i l m holds.0.1 (earlier_one_processor t l m earlier)), (omega (arith, less, up), low)) in
              omega (arith, is, there)
              )
        ]
        )
  ]

  -- and a load no further to the back than to a later store: to it only if they are the halves of a swap
  home-later_store : (l s : ℕ) → IsLoad t l → IsStore t s → Earlier t l s → (home l < rank s) ⊎ IsSwapLoad t l
  home-later_store l s load store earlier = by_cases (home-cases l)
    where
      behind : rank l ≤ rank s
      behind = right.load_op l s load earlier

      by_cases : (home l ≡ rank l) ⊎ (IsLoad t l × ((i : ℕ) × Holds l i × (home l ≡ rank (suc i)))) → (home l < rank s) ⊎ IsSwapLoad t l
      by_cases (inl same) = elim (cases_eq (rank l) (rank s)) [
        | inl one ↦ absurd (unlike l s load store one)
        | inr other ↦ inl (let low = behind in omega (arith, same, low, other))
      ]
      by_cases (inr (_, (i, holds, is))) = elim (cases_eq s (suc i)) [
        | inl same ↦ (
            let less = earlier.5 in
            let up = holds.1.0 in
            let one : i ≡ l = omega (arith, less, up, same) in
            inr (subst (IsSwapLoad t) one holds.0.0)
            )
        | inr other ↦ elim (right.atomicity i s holds.0.0 store other) [
          | inl before ↦ absurd (let low = behind in let here = swap_before l i holds in unlike l s load store (omega (arith, before, low, here)))
          | inr after ↦ elim (cases_eq (rank (suc i)) (rank s)) [
            | inl one ↦ absurd (other (sym (right.apart (suc i) s (store_event t (suc i) (IsSwapLoad-store t i holds.0.0)) (store_event t s store) one)))
            | inr apart ↦ inl (omega (arith, is, after, apart))
          ]
        ]
      ]

  -- A store that stands no later than where a load goes stood before it, or is one of its own stores, or the store of the same swap.
  home-crossed : (l s : ℕ) → IsLoad t l → IsStore t s → rank s ≤ home l → (rank s ≤ rank l) ⊎ (Earlier t s l ⊎ (IsSwapLoad t l × (s ≡ suc l)))
  home-crossed l s load store low = by_cases (home-cases l)
    where
      by_cases : (home l ≡ rank l) ⊎ (IsLoad t l × ((i : ℕ) × Holds l i × (home l ≡ rank (suc i)))) → (rank s ≤ rank l) ⊎ (Earlier t s l ⊎ (IsSwapLoad t l × (s ≡ suc l)))
      by_cases (inl same) = inl (omega (arith, low, same))
      by_cases (inr (_, (i, holds, is))) = elim (cases_eq s (suc i)) [
        | inl same ↦ elim (cases_eq i l) [
          | inl one ↦ inr (inr (subst (IsSwapLoad t) one holds.0.0, same ∙ ap suc one))
          | inr other ↦ (
              let up = holds.1.0 in
              let apart : s ≡ l → ⊥ = λ one. load_is_no_store t l load (subst (IsStore t) one store) in
              let of_s : OfOneProcessor t s l =
              subst (λ n. OfOneProcessor t n l) (sym same)
              (one_processor_chain t (suc i) i l (one_processor_back t i (suc i) (earlier_one_processor t i (suc i) (IsSwapLoad-earlier t i holds.0.0))) holds.0.1) in
              inr (inl (one_processor_earlier t s l of_s (omega (arith, same, up, other, apart))))
              )
        ]
        | inr other ↦ elim (right.atomicity i s holds.0.0 store other) [
          | inl before ↦ inl (let here = swap_before l i holds in omega (arith, before, here))
          | inr after ↦ absurd (other (sym (right.apart (suc i) s (store_event t (suc i) (IsSwapLoad-store t i holds.0.0)) (store_event t s store) (omega (arith, after, low, is)))))
        ]
      ]

  -- ---- who stands where

  -- a load, and no swap's
  abbrev IsPlain : ℕ → Type 0
  IsPlain m = IsLoad t m × (IsSwapLoad t m → ⊥)

  -- whether it is is decided
  plain_decided : (m : ℕ) → Decision (IsPlain m)
  plain_decided m = Decision-both (IsLoad-decided t m) (Decision-not (IsSwapLoad-decided t m))

  -- what such loads have, and others
  turn_as : (m : ℕ) → Decision (IsPlain m) → ℕ
  turn_as m (inl plain) = suc (rank m)
  turn_as m (inr none) = 0

  -- of events that go to one place, swaps stand first, and then loads as before
  turn : ℕ → ℕ
  turn m = turn_as m (plain_decided m)

  -- what such a load has
  turn-plain : (m : ℕ) → IsPlain m → turn m ≡ suc (rank m)
  unfolding turn turn_as
  turn-plain m plain = by_cases (plain_decided m)
    where
      by_cases : (decision : Decision (IsPlain m)) → turn_as m decision ≡ suc (rank m)
      by_cases (inl is) = refl
      by_cases (inr none) = absurd (none plain)

  -- what others have
  turn-none : (m : ℕ) → (IsPlain m → ⊥) → turn m ≡ 0
  unfolding turn turn_as
  turn-none m other = by_cases (plain_decided m)
    where
      by_cases : (decision : Decision (IsPlain m)) → turn_as m decision ≡ 0
      by_cases (inl is) = absurd (other is)
      by_cases (inr none) = refl

  -- none has more than this
  turn-most : (m : ℕ) → turn m < suc bound
  unfolding turn turn_as
  turn-most m = by_cases (plain_decided m)
    where
      by_cases : (decision : Decision (IsPlain m)) → turn_as m decision < suc bound
      by_cases (inl is) = let low = below m in omega (arith, low)
      by_cases (inr none) = omega arith

  -- stores have none
  turn-store : (s : ℕ) → IsStore t s → turn s ≡ 0
  turn-store s store = turn-none s (λ plain. load_is_no_store t s plain.0 store)

  -- nor do swaps' loads
  turn-swap : (l : ℕ) → IsSwapLoad t l → turn l ≡ 0
  turn-swap l swap = turn-none l (λ plain. plain.1 swap)

  -- where an event stands: both numbers as one
  pub spot : ℕ → ℕ
  spot m = home m * suc bound + turn m

  -- what goes no further, and there stands no later
  spot-up : (m n : ℕ) → home m ≤ home n → (home m ≡ home n → turn m ≤ turn n) → spot m ≤ spot n
  unfolding spot
  spot-up m n low same = elim (cases_eq (home m) (home n)) [
    | inl one ↦ pair_up (suc bound) (home m) (home n) (turn m) (turn n) low (same one)
    | inr other ↦ (
        let next : suc (home m) ≤ home n = omega (arith, low, other) in
        let up : suc (home m) * suc bound + 0 ≤ home n * suc bound + turn n = pair_up (suc bound) (suc (home m)) (home n) 0 (turn n) next (omega arith) in
        let more : suc (home m) * suc bound ≡ home m * suc bound + suc bound = omega arith in
        let most = turn-most m in
        omega (arith, up, more, most)
        )
  ]

  -- what goes further to the back
  spot-less : (m n : ℕ) → home m < home n → spot m < spot n
  unfolding spot
  spot-less m n less =
      let next : suc (home m) ≤ home n = omega (arith, less) in
      let up : suc (home m) * suc bound + 0 ≤ home n * suc bound + turn n = pair_up (suc bound) (suc (home m)) (home n) 0 (turn n) next (omega arith) in
      let more : suc (home m) * suc bound ≡ home m * suc bound + suc bound = omega arith in
      let most = turn-most m in
      omega (arith, up, more, most)

  -- a later load stands behind
  pub spot-loads : (l m : ℕ) → IsLoad t l → IsLoad t m → Earlier t l m → spot l ≤ spot m
  spot-loads l m first second earlier = spot-up l m (home-loads l m first second earlier) (λ same. by_kind same (IsSwapLoad-decided t l) (IsSwapLoad-decided t m))
    where
      by_kind : home l ≡ home m → Decision (IsSwapLoad t l) → Decision (IsSwapLoad t m) → turn l ≤ turn m
      by_kind same (inl swap) other = let none = turn-swap l swap in omega (arith, none)
      by_kind same (inr plain) (inr other) =
          let one = turn-plain l (first, plain) in
          let two = turn-plain m (second, other) in
          let low = right.load_op l m first earlier in
          omega (arith, one, two, low)
      by_kind same (inr plain) (inl swap) = absurd (
          let store = IsSwapLoad-store t m swap in
          let there = home-swap m swap in
          elim (home-cases l) [
            | inl is ↦ unlike l (suc m) first store (omega (arith, is, same, there))
            | inr held ↦ (
                let i = held.1.0 in
                let is = held.1.2 in
                let low = held.1.1.1.0 in
                let less = earlier.5 in
                let one = right.apart (suc i) (suc m) (store_event t (suc i) (IsSwapLoad-store t i held.1.1.0.0)) (store_event t (suc m) store) (omega (arith, is, same, there)) in
                omega (arith, one, low, less)
                )
          ]
          )

  -- so does a later store
  pub spot-later_store : (l s : ℕ) → IsLoad t l → IsStore t s → Earlier t l s → spot l ≤ spot s
  spot-later_store l s load store earlier = elim (home-later_store l s load store earlier) [
    | inl less ↦ (let is = home-store s store in spot-up l s (omega (arith, less, is)) (λ same. absurd (omega (arith, less, is, same))))
    | inr swap ↦ spot-up l s (swapped swap) (λ same. (let none = turn-swap l swap in omega (arith, none)))
  ]
    where
      swapped : IsSwapLoad t l → home l ≤ home s
      swapped swap =
          let here = home-swap l swap in
          let there = home-store s store in
          elim (cases_eq s (suc l)) [
            | inl same ↦ (let is : rank s ≡ rank (suc l) = ap rank same in omega (arith, here, there, is))
            | inr other ↦ elim (right.atomicity l s swap store other) [
              | inr after ↦ omega (arith, here, there, after)
              | inl before ↦ absurd (let low = right.load_op l s load earlier in unlike l s load store (omega (arith, before, low)))
            ]
          ]

  -- stores stand as before
  pub spot-stores : (u v : ℕ) → IsStore t u → IsStore t v → rank u ≤ rank v → spot u ≤ spot v
  spot-stores u v first second low =
      let here = home-store u first in
      let there = home-store v second in
      spot-up u v (omega (arith, here, there, low)) (λ same. (let none = turn-store u first in omega (arith, none)))

  -- with no tie
  pub spot-stores_less : (u v : ℕ) → IsStore t u → IsStore t v → rank u < rank v → spot u < spot v
  spot-stores_less u v first second less =
      let here = home-store u first in
      let there = home-store v second in
      spot-less u v (omega (arith, here, there, less))

  -- a load behind a store stays there
  pub spot-behind : (s l : ℕ) → IsStore t s → IsLoad t l → rank s ≤ rank l → spot s < spot l
  spot-behind s l store load low =
      let here = home-store s store in
      let up = home-up l in
      let other : rank l ≡ rank s → ⊥ = unlike l s load store in
      spot-less s l (omega (arith, here, up, low, other))

  -- the halves of a swap stand at one place
  pub spot-swap : (l : ℕ) → IsSwapLoad t l → spot l ≡ spot (suc l)
  unfolding spot
  spot-swap l swap =
      let store = IsSwapLoad-store t l swap in
      let first : home l ≡ home (suc l) = home-swap l swap ∙ sym (home-store (suc l) store) in
      let second : turn l ≡ turn (suc l) = turn-swap l swap ∙ sym (turn-store (suc l) store) in
      ap (λ n. n * suc bound + turn l) first ∙ ap (λ n. home (suc l) * suc bound + n) second

  -- a store that stands before a load stood before it, or is one of its own, or the store of the same swap
  pub spot-crossed : (l s : ℕ) → IsLoad t l → IsStore t s → spot s ≤ spot l → (rank s ≤ rank l) ⊎ (Earlier t s l ⊎ (IsSwapLoad t l × (s ≡ suc l)))
  unfolding spot
  spot-crossed l s load store low =
      let first = pair_first (suc bound) (home s) (home l) (turn s) (turn l) (turn-most l) low in
      let is = home-store s store in
      home-crossed l s load store (omega (arith, first, is))

  -- other stores stand before both halves of a swap, or behind them
  pub spot-atomic : (l s : ℕ) → IsSwapLoad t l → IsStore t s → s ≢ suc l → (spot s < spot l) ⊎ (spot (suc l) < spot s)
  spot-atomic l s swap store other = elim (right.atomicity l s swap store other) [
    | inl before ↦ inl (spot-behind s l store (swap_is_load l swap) before)
    | inr after ↦ (
        let second = IsSwapLoad-store t l swap in
        let apart : rank (suc l) ≡ rank s → ⊥ = λ same. other (sym (right.apart (suc l) s (store_event t (suc l) second) (store_event t s store) same)) in
        inr (spot-stores_less (suc l) s second store (omega (arith, after, apart)))
        )
  ]

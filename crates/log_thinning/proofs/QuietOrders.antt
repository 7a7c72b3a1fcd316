-- An order in which only loads of its processor stand between the halves of a swap.
use Rattle.std.proofs.Common.{◌≡◌, ◌≢◌, ◌⊎◌, ◌∙◌, ℕ, suc, ◌+◌, ◌*◌, ◌<◌, ◌≤◌, inl, inr, refl, sym, ap, subst, arith}
use Rattle.std.proofs.lemmas.Bool.{cases_eq, cases_lt, cases_order}
use Rattle.order_paths.proofs.Decisions.{Decision, Decision-both, Decision-iff, Decision-some, Decision-three, IsFirst, first_below}
use Rattle.tso_ops.specs.Values.{TraceValue}
use Rattle.tso_ops.specs.Events.{event_total, IsEvent, IsLoad, IsStore, IsSwapLoad, Earlier, HasFewerBarriersBefore}
use Rattle.tso_ops.proofs.NumberFacts.{IsStore-within, load_event, store_event, load_is_no_store}
use Rattle.tso_ops.proofs.SwapFacts.{IsSwapLoad-store, IsSwapLoad-earlier}
use Rattle.tso_model.proofs.Decided.{IsStore-decided}
use Rattle.log_thinning.proofs.AlikeOrders.{OfOneProcessor, one_processor_back, one_processor_chain, one_processor_earlier, earlier_one_processor, OfOneProcessor-decided, AreOrdered, alike_order}
use Rattle.log_thinning.proofs.PairRanks.{pair_up, pair_first, pair_second}
use Rattle.log_thinning.proofs.RankModels.{IsModelRank}

-- whether one number is no higher than another is decided
pub low_decided : (m n : ℕ) → Decision (m ≤ n)
low_decided m n = elim (cases_lt n m) [ inl above ↦ inr (λ low. omega (arith, above, low)) | inr low ↦ inl low ]

-- All ranks are below the bound.
module _ (t : TraceValue) (rank : ℕ → ℕ) (right : IsModelRank t rank) (bound : ℕ) (below : (n : ℕ) → rank n < bound) where
  -- a store has this rank
  abbrev HasStore : ℕ → Type 0
  HasStore r = (s : ℕ) × IsStore t s × (rank s ≡ r)

  -- one from event m on
  abbrev IsStoreFrom : ℕ → ℕ → Type 0
  IsStoreFrom m r = (rank m ≤ r) × HasStore r

  -- whether there is one is decided
  from_decided : (m r : ℕ) → Decision (IsStoreFrom m r)
  from_decided m r =
      Decision-both (low_decided (rank m) r)
      (Decision-iff (λ p. (p.0, p.1.0, p.1.1)) (λ p. (p.0, (p.1, p.2)))
      (Decision-some (λ s. IsStore t s × (rank s ≡ r)) (λ s. Decision-both (IsStore-decided t s) (cases_eq (rank s) r)) (suc (event_total t)) (λ s p. IsStore-within t s p.0)))

  -- the first of them, if there is one
  abbrev NextStore : ℕ → Type 0
  NextStore m = ((k : ℕ) × (k < bound) × IsFirst (IsStoreFrom m) k) ⊎ ((k : ℕ) → k < bound → IsStoreFrom m k → ⊥)

  -- its rank
  rank_of_next : (m : ℕ) → NextStore m → ℕ
  rank_of_next m (inl found) = found.0
  rank_of_next m (inr none) = bound

  -- the rank of the first store from event m on, or the bound
  next : ℕ → ℕ
  next m = rank_of_next m (first_below (IsStoreFrom m) (from_decided m) bound)

  -- it isn't below the event's rank
  next-up : (m : ℕ) → rank m ≤ next m
  unfolding next rank_of_next
  next-up m = by_cases (first_below (IsStoreFrom m) (from_decided m) bound)
    where
      by_cases : (found : NextStore m) → rank m ≤ rank_of_next m found
      by_cases (inl found) = found.2.0.0
      by_cases (inr none) = let low = below m in omega (arith, low)

  -- nor above that of any store from the event on
  next-low : (m s : ℕ) → IsStore t s → rank m ≤ rank s → next m ≤ rank s
  unfolding next rank_of_next
  next-low m s store low = by_cases (first_below (IsStoreFrom m) (from_decided m) bound)
    where
      by_cases : (found : NextStore m) → rank_of_next m found ≤ rank s
      by_cases (inl found) = elim (cases_lt (rank s) found.0) [
        | inl less ↦ absurd (found.2.1 (rank s) less (low, (s, store, refl)))
        | inr up ↦ up
      ]
      by_cases (inr none) = absurd (none (rank s) (below s) (low, (s, store, refl)))

  -- it is the bound or the rank of a store
  next-store : (m : ℕ) → (next m ≡ bound) ⊎ HasStore (next m)
  unfolding next rank_of_next
  next-store m = by_cases (first_below (IsStoreFrom m) (from_decided m) bound)
    where
      by_cases : (found : NextStore m) → (rank_of_next m found ≡ bound) ⊎ HasStore (rank_of_next m found)
      by_cases (inl found) = inr found.2.0.1
      by_cases (inr none) = inl refl

  -- it isn't above the bound
  next-most : (m : ℕ) → next m ≤ bound
  next-most m = elim (next-store m) [
    | inl is ↦ omega (arith, is)
    | inr found ↦ (let low = below found.0 in let is = found.2 in omega (arith, low, is))
  ]

  -- it ascends
  next-ascends : (m n : ℕ) → rank m ≤ rank n → next m ≤ next n
  next-ascends m n low = elim (next-store n) [
    | inl is ↦ (let most = next-most m in omega (arith, is, most))
    | inr found ↦ (
        let up = next-up n in
        let is = found.2 in
        let first = next-low m found.0 found.1 (omega (arith, low, up, is)) in
        omega (arith, first, is)
        )
  ]

  -- a store is its own next one
  next-own : (s : ℕ) → IsStore t s → next s ≡ rank s
  next-own s store = let low = next-low s s store (omega arith) in let up = next-up s in omega (arith, low, up)

  -- the next store is of the event's processor
  abbrev IsOwnNext : ℕ → Type 0
  IsOwnNext m = (s : ℕ) × IsStore t s × (rank s ≡ next m) × OfOneProcessor t s m

  -- whether it is is decided
  own_decided : (m : ℕ) → Decision (IsOwnNext m)
  own_decided m =
      Decision-iff (λ p. (p.0, p.1.0, p.1.1, p.1.2)) (λ p. (p.0, (p.1, p.2, p.3)))
      (Decision-some (λ s. IsStore t s × (rank s ≡ next m) × OfOneProcessor t s m)
      (λ s. Decision-three (IsStore-decided t s) (cases_eq (rank s) (next m)) (OfOneProcessor-decided t s m)) (suc (event_total t)) (λ s p. IsStore-within t s p.0))

  -- 1 if a fact holds, and 0 if not
  counted : {A : Type 0} → Decision A → ℕ
  counted (inl holds) = 1
  counted (inr none) = 0

  -- 1 if it is
  own : ℕ → ℕ
  own m = counted (own_decided m)

  -- it is 1 at most
  own-most : (m : ℕ) → own m ≤ 1
  unfolding own counted
  own-most m = by_cases (own_decided m)
    where
      by_cases : (decision : Decision (IsOwnNext m)) → counted decision ≤ 1
      by_cases (inl holds) = omega arith
      by_cases (inr none) = omega arith

  -- it is 1 where the next store is of the event's processor
  own-yes : (m : ℕ) → IsOwnNext m → own m ≡ 1
  unfolding own counted
  own-yes m is = by_cases (own_decided m)
    where
      by_cases : (decision : Decision (IsOwnNext m)) → counted decision ≡ 1
      by_cases (inl holds) = refl
      by_cases (inr none) = absurd (none is)

  -- and nowhere else
  own-is : (m : ℕ) → 0 < own m → IsOwnNext m
  unfolding own counted
  own-is m more = by_cases (own_decided m) more
    where
      by_cases : (decision : Decision (IsOwnNext m)) → 0 < counted decision → IsOwnNext m
      by_cases (inl holds) less = holds
      by_cases (inr none) less = absurd (omega (arith, less))

  -- loads before their next store stand by its processor: those of others first
  weight : ℕ → ℕ
  weight m = 2 * next m + own m

  -- the order: by the next store, by its processor, and as before
  pub quiet : ℕ → ℕ
  quiet m = weight m * bound + rank m

  -- events of one processor
  weight-own : (m n : ℕ) → OfOneProcessor t m n → rank m ≤ rank n → weight m ≤ weight n
  unfolding weight
  weight-own m n same low = elim (cases_lt (next m) (next n)) [
    | inl less ↦ (let most = own-most m in omega (arith, less, most))
    | inr high ↦ (
        let up = next-ascends m n low in
        let one : next m ≡ next n = omega (arith, up, high) in
        let owns = own-same one in
        omega (arith, one, owns)
        )
  ]
    where
      own-same : next m ≡ next n → own m ≤ own n
      own-same one = elim (cases_lt 0 (own m)) [
        | inr none ↦ omega (arith, none)
        | inl some ↦ (
            let is = own-is m some in
            let yes_n = own-yes n (is.0, is.1, is.2 ∙ one, one_processor_chain t is.0 m n is.3 same) in
            let most = own-most m in
            omega (arith, yes_n, most)
            )
      ]

  -- a store and what comes behind it
  weight-first : (m n : ℕ) → IsStore t m → IsEvent t n → rank m ≤ rank n → weight m ≤ weight n
  unfolding weight
  weight-first m n store event low = elim (cases_lt (next m) (next n)) [
    | inl less ↦ (let most = own-most m in omega (arith, less, most))
    | inr high ↦ (
        let here = next-own m store in
        let up = next-up n in
        let one = right.apart m n (store_event t m store) event (omega (arith, low, high, here, up)) in
        let same : 2 * next m + own m ≡ 2 * next n + own n = ap (λ k. 2 * next k + own k) one in
        omega (arith, same)
        )
  ]

  -- a store and what comes before it
  weight-last : (m n : ℕ) → IsStore t n → rank m ≤ rank n → weight m ≤ weight n
  unfolding weight
  weight-last m n store low =
      let up = next-ascends m n low in
      let most = own-most m in
      let one = own-yes n (n, store, sym (next-own n store), (store.0, store.0, store.1, store.1, refl)) in
      omega (arith, up, most, one)

  -- events the order of which an axiom may ask for stand as before
  quiet-alike : (m n : ℕ) → IsEvent t m → IsEvent t n → AreOrdered t m n → rank m ≤ rank n → quiet m ≤ quiet n
  unfolding quiet
  quiet-alike m n event_m event_n ordered low = pair_up bound (weight m) (weight n) (rank m) (rank n) (by_kind ordered) low
    where
      by_kind : AreOrdered t m n → weight m ≤ weight n
      by_kind (inl same) = weight-own m n same low
      by_kind (inr (inl store)) = weight-first m n store event_n low
      by_kind (inr (inr store)) = weight-last m n store low

  -- no two events have one rank
  quiet-apart : (m n : ℕ) → IsEvent t m → IsEvent t n → quiet m ≡ quiet n → m ≡ n
  unfolding quiet
  quiet-apart m n event_m event_n same =
      let up : weight m * bound + rank m ≤ weight n * bound + rank n = omega (arith, same) in
      let down : weight n * bound + rank n ≤ weight m * bound + rank m = omega (arith, same) in
      let first = pair_first bound (weight m) (weight n) (rank m) (rank n) (below n) up in
      let second = pair_first bound (weight n) (weight m) (rank n) (rank m) (below m) down in
      let one : weight m ≡ weight n = omega (arith, first, second) in
      let low = pair_second bound (weight m) (weight n) (rank m) (rank n) one up in
      let high = pair_second bound (weight n) (weight m) (rank n) (rank m) (sym one) down in
      right.apart m n event_m event_n (omega (arith, low, high))

  -- it meets the axioms
  pub quiet_order : IsModelRank t quiet
  quiet_order = alike_order t rank quiet right quiet-apart quiet-alike

  -- the next store from a swap's load on is its own
  next-swap : (l : ℕ) → IsSwapLoad t l → next l ≡ rank (suc l)
  next-swap l swap =
      let store = IsSwapLoad-store t l swap in
      let low = next-low l (suc l) store (right.swap l swap) in
      elim (next-store l) [
        | inl is ↦ absurd (let less = below (suc l) in omega (arith, is, low, less))
        | inr found ↦ elim (cases_eq found.0 (suc l)) [
          | inl same ↦ sym found.2 ∙ ap rank same
          | inr other ↦ (
              let up = next-up l in
              let is = found.2 in
              elim (right.atomicity l found.0 swap found.1 other) [
                | inl before ↦ absurd (load_is_no_store t l (swap.0, swap.1, swap.2)
                    (subst (IsStore t) (right.apart found.0 l (store_event t found.0 found.1) (swap.0, swap.1) (omega (arith, before, is, up))) found.1))
                | inr after ↦ omega (arith, after, is, low)
              ]
              )
        ]
      ]

  -- A load with a barrier between the stores of its processor before it and itself doesn't stand between the halves of a swap.
  pub quiet_swaps : (w l : ℕ) → IsLoad t w → ((u : ℕ) → Earlier t u w → HasFewerBarriersBefore t u w) → IsSwapLoad t l → l ≢ w → (quiet w ≤ quiet l) ⊎ (quiet (suc l) ≤ quiet w)
  unfolding quiet weight
  quiet_swaps w l load barrier swap other = elim (cases_lt (quiet l) (quiet w)) [
    | inr low ↦ inl low
    | inl behind ↦ elim (cases_lt (quiet w) (quiet (suc l))) [
      | inr high ↦ inr high
      | inl before ↦ absurd (never (omega (arith, behind)) (omega (arith, before)))
    ]
  ]
    where
      store : IsStore t (suc l)
      store = IsSwapLoad-store t l swap

      swap_load : IsLoad t l
      swap_load = (swap.0, swap.1, swap.2)

      -- an own load is before the swap, or behind its store, since the barrier keeps it there
      own_load : OfOneProcessor t (suc l) w → rank l ≤ rank w → rank w ≤ rank (suc l) → ⊥
      own_load same low high = elim (cases_order w l) [
        | inl one ↦ other (sym one)
        | inr (inl earlier) ↦ (
            let of_l = one_processor_chain t w (suc l) l (one_processor_back t (suc l) w same) (one_processor_back t l (suc l) (earlier_one_processor t l (suc l) (IsSwapLoad-earlier t l swap))) in
            let up = right.load_op w l load (one_processor_earlier t w l of_l earlier) in
            other (right.apart l w (load_event t l swap_load) (load_event t w load) (omega (arith, low, up)))
            )
        | inr (inr later) ↦ elim (cases_eq (suc l) w) [
          | inl one ↦ load_is_no_store t w load (subst (IsStore t) one store)
          | inr apart ↦ (
              let earlier = one_processor_earlier t (suc l) w same (omega (arith, later, apart)) in
              let up = right.membar (suc l) w store load earlier (barrier (suc l) earlier) in
              apart (right.apart (suc l) w (store_event t (suc l) store) (load_event t w load) (omega (arith, up, high)))
              )
        ]
      ]

      never : weight l * bound + rank l ≤ weight w * bound + rank w → weight w * bound + rank w ≤ weight (suc l) * bound + rank (suc l) → ⊥
      never behind before =
          let first = pair_first bound (weight l) (weight w) (rank l) (rank w) (below w) behind in
          let second = pair_first bound (weight w) (weight (suc l)) (rank w) (rank (suc l)) (below (suc l)) before in
          let next_l = next-swap l swap in
          let next_s = next-own (suc l) store in
          let own_l = own-yes l (suc l, store, sym next_l, one_processor_back t l (suc l) (earlier_one_processor t l (suc l) (IsSwapLoad-earlier t l swap))) in
          let most_s = own-most (suc l) in
          let most_w = own-most w in
          let weight_l : weight l ≡ 2 * rank (suc l) + 1 = omega (arith, next_l, own_l) in
          let weight_s : weight (suc l) ≤ 2 * rank (suc l) + 1 = omega (arith, next_s, most_s) in
          let weight_w : 2 * next w + own w ≡ 2 * rank (suc l) + 1 = omega (arith, first, second, weight_l, weight_s) in
          let own_w : 0 < own w = omega (arith, weight_w, most_w) in
          let next_w : next w ≡ rank (suc l) = omega (arith, weight_w, most_w) in
          let is = own-is w own_w in
          let same : is.0 ≡ suc l = right.apart is.0 (suc l) (store_event t is.0 is.1) (store_event t (suc l) store) (let own_rank = is.2 in omega (arith, own_rank, next_w)) in
          let low = pair_second bound (weight l) (weight w) (rank l) (rank w) (omega (arith, first, second, weight_l, weight_s)) behind in
          let high = pair_second bound (weight w) (weight (suc l)) (rank w) (rank (suc l)) (omega (arith, first, second, weight_l, weight_s)) before in
          own_load (subst (λ s. OfOneProcessor t s w) same is.3) low high

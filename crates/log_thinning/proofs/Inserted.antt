-- An order of a trace with one event more, behind the events of ranks below a number and before the others.
use Rattle.std.proofs.Common.{◌≡◌, ◌≢◌, ◌⊎◌, ◌∙◌, ℕ, suc, ◌*◌, ◌<◌, ◌≤◌, inl, inr, ⊎_elim, refl, sym, ap, subst, arith}
use Rattle.std.proofs.lemmas.Bool.{cases_eq, cases_lt}
use Rattle.tso_ops.specs.Values.{TraceValue}
use Rattle.tso_ops.specs.Events.{IsEvent, IsLoad, IsStore, IsSwapLoad, Earlier, HasFewerBarriersBefore, HasFewerStbarsBefore, KeepsStores}
use Rattle.tso_ops.proofs.NumberFacts.{store_event}
use Rattle.log_thinning.proofs.RankModels.{IsModelRank, ReadsLast}
use Rattle.log_thinning.proofs.Skips.{skip, skip-never, skip-once, skip-back}
use Rattle.log_thinning.proofs.Without.{IsWithout, at_each, load_here, store_here, earlier_here, stbars_here, keeps_here}

module _ (x : ℕ) (rank : ℕ → ℕ) (cut : ℕ) where
  -- its rank is even, those of others are odd
  inserted_if : (m : ℕ) → (m ≡ x) ⊎ (m ≡ x → ⊥) → ℕ
  inserted_if m (inl same) = 2 * cut
  inserted_if m (inr other) = suc (2 * rank (skip-back x m other).0)

  -- the ranks with x before those from the cut on
  pub inserted : ℕ → ℕ
  inserted m = inserted_if m (cases_eq m x)

  -- the rank of x
  pub inserted-here : inserted x ≡ 2 * cut
  unfolding inserted inserted_if
  inserted-here = by_cases (cases_eq x x)
    where
      by_cases : (side : (x ≡ x) ⊎ (x ≡ x → ⊥)) → inserted_if x side ≡ 2 * cut
      by_cases (inl same) = refl
      by_cases (inr other) = absurd (other refl)

  -- and of another event
  pub inserted-there : (n : ℕ) → inserted (skip x n) ≡ suc (2 * rank n)
  unfolding inserted inserted_if
  inserted-there n = by_cases (cases_eq (skip x n) x)
    where
      by_cases : (side : (skip x n ≡ x) ⊎ (skip x n ≡ x → ⊥)) → inserted_if (skip x n) side ≡ suc (2 * rank n)
      by_cases (inl same) = absurd (skip-never x n same)
      by_cases (inr other) = let found = skip-back x (skip x n) other in ap (λ m. suc (2 * rank m)) (skip-once x found.0 n found.1)

  -- how two events stand
  pub up_there : (u v : ℕ) → rank u ≤ rank v → inserted (skip x u) ≤ inserted (skip x v)
  up_there u v low = omega (arith, low, inserted-there u, inserted-there v)

  -- two other events stand as before
  pub up_here : (u v : ℕ) → inserted (skip x u) ≤ inserted (skip x v) → rank u ≤ rank v
  up_here u v low = omega (arith, low, inserted-there u, inserted-there v)

  -- x stands behind what is below the cut
  pub before_there : (n : ℕ) → rank n < cut → inserted (skip x n) ≤ inserted x
  before_there n less = omega (arith, less, inserted-there n, inserted-here)

  -- and behind nothing else
  pub before_here : (n : ℕ) → inserted (skip x n) ≤ inserted x → rank n < cut
  before_here n low = omega (arith, low, inserted-there n, inserted-here)

  -- what is from the cut on stands behind x
  pub behind_there : (n : ℕ) → cut ≤ rank n → inserted x ≤ inserted (skip x n)
  behind_there n high = omega (arith, high, inserted-there n, inserted-here)

  -- and nothing else
  pub behind_here : (n : ℕ) → inserted x ≤ inserted (skip x n) → cut ≤ rank n
  behind_here n low = omega (arith, low, inserted-there n, inserted-here)

  -- none has the rank of x
  pub never_same : (n : ℕ) → inserted (skip x n) ≡ inserted x → ⊥
  never_same n same = omega (arith, same, inserted-there n, inserted-here)

-- What lets event x of the log stand at the cut, where the trace has all events of the log but x.
pub record CanInsert (log t : TraceValue) (x : ℕ) (rank : ℕ → ℕ) (cut : ℕ) : Type 0 where
  pub unswapped : IsSwapLoad log x → ⊥
  -- the events of its processor
  pub before : (n : ℕ) → IsLoad t n ⊎ IsStore log x → Earlier log (skip x n) x → rank n < cut
  pub behind : (n : ℕ) → Earlier log x (skip x n) → cut ≤ rank n
  -- barriers
  pub barriers : (u v : ℕ) → Earlier t u v → HasFewerBarriersBefore log (skip x u) (skip x v) → HasFewerBarriersBefore t u v
  pub barrier_before : (n : ℕ) → IsStore t n → IsLoad log x → Earlier log (skip x n) x → HasFewerBarriersBefore log (skip x n) x → rank n < cut
  -- a swap of the log is one of the trace, or the event right before the cut and x
  pub swaps : (n : ℕ) → IsSwapLoad log (skip x n) → (IsSwapLoad t n × (skip x (suc n) ≡ suc (skip x n))) ⊎ ((suc (rank n) ≡ cut) × (suc (skip x n) ≡ x))
  -- the cut isn't between the halves of another swap, if x is a store
  pub between : (l : ℕ) → IsSwapLoad t l → IsStore log x → (cut ≤ rank l) ⊎ (rank (suc l) < cut)

module _ (log t : TraceValue) (x : ℕ) (without : IsWithout log t x) where
  -- what holds of x and of events of the trace, two each, holds of any two of the log
  at_both : (P : ℕ → ℕ → Type 0) → P x x → ((n : ℕ) → IsEvent t n → P x (skip x n)) → ((n : ℕ) → IsEvent t n → P (skip x n) x) →
      ((m n : ℕ) → IsEvent t m → IsEvent t n → P (skip x m) (skip x n)) → (u v : ℕ) → IsEvent log u → IsEvent log v → P u v
  at_both P same first second both u v event_u event_v =
      at_each log t x without (λ m. P m v)
      (at_each log t x without (λ n. P x n) same first v event_v)
      (λ m event. at_each log t x without (λ n. P (skip x m) n) (second m event) (λ n other. both m n event other) v event_v)
      u event_u

  -- no event is before itself
  not_earlier : (n : ℕ) → Earlier log n n → ⊥
  not_earlier n earlier = let less = earlier.5 in omega (arith, less)

  module _ (rank : ℕ → ℕ) (right : IsModelRank t rank) (cut : ℕ) (can : CanInsert log t x rank cut) where
    -- the order with x
    abbrev Rank : ℕ → ℕ
    Rank = inserted x rank cut

    -- no two events have one rank
    with_apart : (u v : ℕ) → IsEvent log u → IsEvent log v → Rank u ≡ Rank v → u ≡ v
    with_apart =
        at_both (λ u v. Rank u ≡ Rank v → u ≡ v)
        (λ same. refl)
        (λ n event same. absurd (never_same x rank cut n (sym same)))
        (λ n event same. absurd (never_same x rank cut n same))
        (λ m n first second same. ap (skip x) (right.apart m n first second (omega (arith, same, inserted-there x rank cut m, inserted-there x rank cut n))))

    -- what a processor did after a load
    with_load_op : (u v : ℕ) → IsLoad log u → Earlier log u v → Rank u ≤ Rank v
    with_load_op u v load earlier =
        at_both (λ u v. IsLoad log u → Earlier log u v → Rank u ≤ Rank v)
        (λ _ own. absurd (not_earlier x own))
        (λ n event _ own. behind_there x rank cut n (can.behind n own))
        (λ n event is own. before_there x rank cut n (can.before n (inl (load_here log t x without n is)) own))
        (λ m n first second is own. up_there x rank cut m n (right.load_op m n (load_here log t x without m is) (earlier_here log t x without m n own)))
        u v (earlier.0, earlier.2) (earlier.1, earlier.3) load earlier

    -- two stores of which the trace keeps the order
    with_stores : (Keeps : (s : TraceValue) → ℕ → ℕ → Type 0) → ((m n : ℕ) → IsEvent t m → IsEvent t n → Keeps log (skip x m) (skip x n) → Keeps t m n) →
        ((m n : ℕ) → IsStore t m → IsStore t n → Earlier t m n → Keeps t m n → rank m ≤ rank n) →
        (u v : ℕ) → IsStore log u → IsStore log v → Earlier log u v → Keeps log u v → Rank u ≤ Rank v
    with_stores Keeps keeps_here keeps u v first second earlier kept =
        at_both (λ u v. IsStore log u → IsStore log v → Earlier log u v → Keeps log u v → Rank u ≤ Rank v)
        (λ _ _ own _. absurd (not_earlier x own))
        (λ n event _ _ own _. behind_there x rank cut n (can.behind n own))
        (λ n event _ is own _. before_there x rank cut n (can.before n (inr is) own))
        (λ m n event_m event_n is_m is_n own is.
        up_there x rank cut m n
        (keeps m n (store_here log t x without m is_m) (store_here log t x without n is_n) (earlier_here log t x without m n own) (keeps_here m n event_m event_n is)))
        u v (earlier.0, earlier.2) (earlier.1, earlier.3) first second earlier kept

    -- a barrier between a store and a load
    with_membar : (u v : ℕ) → IsStore log u → IsLoad log v → Earlier log u v → HasFewerBarriersBefore log u v → Rank u ≤ Rank v
    with_membar u v store load earlier fewer =
        at_both (λ u v. IsStore log u → IsLoad log v → Earlier log u v → HasFewerBarriersBefore log u v → Rank u ≤ Rank v)
        (λ _ _ own _. absurd (not_earlier x own))
        (λ n event _ _ own _. behind_there x rank cut n (can.behind n own))
        (λ n event is_store is_load own is.
        before_there x rank cut n (can.barrier_before n (store_here log t x without n is_store) is_load own is))
        (λ m n event_m event_n is_store is_load own is.
        let here = earlier_here log t x without m n own in
        up_there x rank cut m n (right.membar m n (store_here log t x without m is_store) (load_here log t x without n is_load) here (can.barriers m n here is)))
        u v (earlier.0, earlier.2) (earlier.1, earlier.3) store load earlier fewer

    -- a swap's store
    with_swap_after : (l : ℕ) → IsSwapLoad log l → Rank l ≤ Rank (suc l)
    with_swap_after l swap =
        at_each log t x without (λ l. IsSwapLoad log l → Rank l ≤ Rank (suc l))
        (λ is. absurd (can.unswapped is))
        (λ n event is. elim (can.swaps n is) [
          | inl kept ↦ subst (λ m. Rank (skip x n) ≤ Rank m) kept.1 (up_there x rank cut n (suc n) (right.swap n kept.0))
          | inr here ↦ subst (λ m. Rank (skip x n) ≤ Rank m) (sym here.1)
              (before_there x rank cut n (let last = here.0 in omega (arith, last)))
        ])
        l (swap.0, swap.1) swap

    -- no other store between a swap's load and its store
    with_atomicity : (l s : ℕ) → IsSwapLoad log l → IsStore log s → s ≢ suc l → (Rank s ≤ Rank l) ⊎ (Rank (suc l) ≤ Rank s)
    with_atomicity l s swap store other =
        at_both (λ l s. IsSwapLoad log l → IsStore log s → s ≢ suc l → (Rank s ≤ Rank l) ⊎ (Rank (suc l) ≤ Rank s))
        (λ is _ _. absurd (can.unswapped is))
        (λ n event is _ _. absurd (can.unswapped is))
        (λ n event is is_store apart. elim (can.swaps n is) [
          | inl kept ↦ ⊎_elim
              (λ before. inl (behind_there x rank cut n before))
              (λ after. inr (subst (λ m. Rank m ≤ Rank x) kept.1 (before_there x rank cut (suc n) after)))
              (can.between n kept.0 is_store)
          | inr here ↦ absurd (apart (sym here.1))
        ])
        (λ n m event_n event_m is is_store apart. elim (can.swaps n is) [
          | inl kept ↦ ⊎_elim
              (λ before. inl (up_there x rank cut m n before))
              (λ after. inr (subst (λ k. Rank k ≤ Rank (skip x m)) kept.1 (up_there x rank cut (suc n) m after)))
              (right.atomicity n m kept.0 (store_here log t x without m is_store) (λ same. apart (ap (skip x) same ∙ kept.1)))
          | inr here ↦ elim (cases_lt (rank m) cut) [
            | inl less ↦ inl (up_there x rank cut m n (let last = here.0 in omega (arith, last, less)))
            | inr high ↦ inr (subst (λ k. Rank k ≤ Rank (skip x m)) (sym here.1) (behind_there x rank cut m high))
          ]
        ])
        l s (swap.0, swap.1) (store_event log s store) swap store other

    -- the order of the trace with x is one of the log, if its loads read what they read
    pub order_with : ((l : ℕ) → IsLoad log l → ReadsLast log Rank l) → IsModelRank log Rank
    order_with value = record {
      apart = with_apart;
      load_op = with_load_op;
      store_store = with_stores KeepsStores (keeps_here log t x without) right.store_store;
      stbar = with_stores HasFewerStbarsBefore (λ m n _ _ fewer. stbars_here log t x without m n fewer) right.stbar;
      membar = with_membar;
      swap = with_swap_after;
      atomicity = with_atomicity;
      value = value;
    }

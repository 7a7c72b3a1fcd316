-- A load that repeats the last one fits right behind that, and one that the next repeats right before that.
use Rattle.std.proofs.Common.{◌≡◌, ◌≢◌, ◌⊎◌, ◌∙◌, ℕ, suc, ◌<◌, ◌≤◌, inl, inr, sym, ap, subst, arith}
use Rattle.std.proofs.lemmas.Bool.{cases_eq}
use Rattle.tso_ops.specs.declared.events.Event.{Event}
use Rattle.tso_ops.specs.Values.{TraceValue}
use Rattle.tso_ops.specs.Events.{IsLoad, IsStore, SameAddress, SameValue, Earlier, HasFewerBarriersBefore}
use Rattle.tso_ops.proofs.NumberFacts.{event_unique, load_event, store_event, load_is_no_store}
use Rattle.tso_model.specs.Axioms.{IsConsistent}
use Rattle.log_thinning.proofs.IdleForward.{earlier_chain}
use Rattle.log_thinning.proofs.RankModels.{IsModelRank, ranks_of_order, order_of_ranks}
use Rattle.log_thinning.proofs.RepeatOrders.{IsDropped, FitsAt, dropped_forward, dropped_back}
use Rattle.log_thinning.proofs.Skips.{skip, skip-below, skip-above, skip-once}
use Rattle.log_thinning.proofs.Without.{load_there, load_here, store_there, earlier_there, earlier_here}

-- Load l repeats load k: between the two stand only stores to other addresses.
pub record IsRepeat (log t : TraceValue) (k l : ℕ) : Type 0 where
  pub dropped : IsDropped log t l
  pub kept : IsLoad log k
  pub earlier : Earlier log k l
  pub address : SameAddress log k l
  pub value : SameValue log k l
  -- what is before the one is before the other
  pub loads : (u : ℕ) → IsLoad log u → Earlier log u l → (u ≡ k) ⊎ Earlier log u k
  pub stores : (u : ℕ) → IsStore log u → SameAddress log u l → Earlier log u l → Earlier log u k
  pub barrier : (u : ℕ) → IsStore log u → Earlier log u l → HasFewerBarriersBefore log u l → Earlier log u k × HasFewerBarriersBefore log u k

module _ (log t : TraceValue) (k l : ℕ) (is : IsRepeat log t k l) (rank : ℕ → ℕ) (right : IsModelRank t rank) where
  -- the kept load has one number in both
  here : skip l k ≡ k
  here = skip-below l k is.earlier.5

  -- and is a load of the trace
  kept_here : IsLoad t k
  kept_here = load_here log t l is.dropped.without k (subst (IsLoad log) (sym here) is.kept)

  -- what is earlier than the kept load in the log is so in the trace
  before_kept : (n : ℕ) → Earlier log (skip l n) k → Earlier t n k
  before_kept n earlier = earlier_here log t l is.dropped.without n k (subst (Earlier log (skip l n)) (sym here) earlier)

  -- it fits behind
  fits_behind : FitsAt log t l k rank (suc (rank k))
  fits_behind = record {
    kept = kept_here;
    address = subst (λ n. SameAddress log n l) (sym here) is.address;
    value = subst (λ n. SameValue log n l) (sym here) is.value;
    before = λ n load earlier. elim (is.loads (skip l n) (load_there log t l is.dropped.without n load) earlier) [
      | inl same ↦ (let one : rank n ≡ rank k = ap rank (skip-once l n k (same ∙ sym here)) in omega (arith, one))
      | inr less ↦ (let low = right.load_op n k load (before_kept n less) in omega (arith, low))
    ];
    behind = λ n earlier.
        let after = earlier_here log t l is.dropped.without k n (subst (λ m. Earlier log m (skip l n)) (sym here) (earlier_chain log k l (skip l n) is.earlier earlier)) in
        let up = right.load_op k n kept_here after in
        let other : rank k ≡ rank n → ⊥ = λ same. (let one = right.apart k n (after.0, after.2) (after.1, after.3) same in let less = after.5 in omega (arith, one, less)) in
        omega (arith, up, other);
    barrier = λ n store earlier fewer.
        let both = is.barrier (skip l n) (store_there log t l is.dropped.without n store) earlier fewer in
        let low = right.membar n k store kept_here (before_kept n both.0) (is.dropped.barriers_here n k (subst (HasFewerBarriersBefore log (skip l n)) (sym here) both.1)) in
        omega (arith, low);
    sees_kept = λ s store address seen. elim seen [
      | inl less ↦ inl (omega (arith, less))
      | inr earlier ↦ inr (before_kept s (is.stores (skip l s) (store_there log t l is.dropped.without s store) address earlier))
    ];
    kept_sees = λ s store seen. elim seen [
      | inl low ↦ inl (omega (arith, low))
      | inr earlier ↦ inr (earlier_chain log (skip l s) k l (subst (Earlier log (skip l s)) here (earlier_there log t l is.dropped.without s k earlier)) is.earlier)
    ];
  }

-- Load l is repeated by the next event, before which only barriers stand.
pub record IsRepeatedNext (log t : TraceValue) (l : ℕ) : Type 0 where
  pub dropped : IsDropped log t l
  pub kept : IsLoad log (suc l)
  pub earlier : Earlier log l (suc l)
  pub address : SameAddress log (suc l) l
  pub value : SameValue log (suc l) l
  -- what has a barrier before the one has one before the other
  pub barrier : (u : ℕ) → Earlier log u l → HasFewerBarriersBefore log u l → HasFewerBarriersBefore log u (suc l)

module _ (log t : TraceValue) (l : ℕ) (is : IsRepeatedNext log t l) (rank : ℕ → ℕ) (right : IsModelRank t rank) where
  -- the next load has the number of the dropped one in the trace
  next_here : skip l l ≡ suc l
  next_here = skip-above l l (omega arith)

  -- and is a load there
  next_load : IsLoad t l
  next_load = load_here log t l is.dropped.without l (subst (IsLoad log) (sym next_here) is.kept)

  -- what is before the dropped load is before the next one
  before_next : (n : ℕ) → Earlier log (skip l n) l → Earlier t n l
  before_next n earlier = earlier_here log t l is.dropped.without n l (subst (Earlier log (skip l n)) (sym next_here) (earlier_chain log (skip l n) l (suc l) earlier is.earlier))

  -- what is before it has another rank
  less_next : (n : ℕ) → Earlier t n l → rank n ≤ rank l → rank n < rank l
  less_next n earlier low =
      let other : rank n ≡ rank l → ⊥ = λ same. (let one = right.apart n l (earlier.0, earlier.2) (earlier.1, earlier.3) same in let less = earlier.5 in omega (arith, one, less)) in
      omega (arith, low, other)

  -- it fits before
  fits_before : FitsAt log t l l rank (rank l)
  fits_before = record {
    kept = next_load;
    address = subst (λ n. SameAddress log n l) (sym next_here) is.address;
    value = subst (λ n. SameValue log n l) (sym next_here) is.value;
    before = λ n load earlier. let first = before_next n earlier in less_next n first (right.load_op n l load first);
    behind = λ n earlier. elim (cases_eq (skip l n) (suc l)) [
      | inl same ↦ (let one : rank n ≡ rank l = ap rank (skip-once l n l (same ∙ sym next_here)) in omega (arith, one))
      | inr other ↦ right.load_op l n next_load (earlier_here log t l is.dropped.without l n (behind_next n earlier other))
    ];
    barrier = λ n store earlier fewer.
        let first = before_next n earlier in
        less_next n first
        (right.membar n l store next_load first (is.dropped.barriers_here n l (subst (HasFewerBarriersBefore log (skip l n)) (sym next_here) (is.barrier (skip l n) earlier fewer))));
    sees_kept = λ s store address seen. elim seen [
      | inl less ↦ inl (omega (arith, less))
      | inr earlier ↦ inr (before_next s earlier)
    ];
    kept_sees = λ s store seen. elim seen [
      | inl low ↦ inl (
          let other : rank s ≡ rank l → ⊥ = λ same. load_is_no_store t l next_load (subst (IsStore t) (right.apart s l (store_event t s store) (load_event t l next_load) same) store) in
          omega (arith, low, other)
          )
      | inr earlier ↦ inr (before_dropped s earlier)
    ];
  }
    where
      -- what is behind the dropped load is the next one, or behind that
      behind_next : (n : ℕ) → Earlier log l (skip l n) → skip l n ≢ suc l → Earlier log (skip l l) (skip l n)
      behind_next n (d, e, at_d, at_e, same, less) other =
          subst (λ m. Earlier log m (skip l n)) (sym next_here)
          (is.earlier.1, e, is.earlier.3, at_e, sym is.earlier.4 ∙ ap (λ (x : Event). x.proc) (event_unique log l is.earlier.0 d is.earlier.2 at_d) ∙ same, omega (arith, less, other))

      -- what is before the next one in the trace is before the dropped one in the log
      before_dropped : (s : ℕ) → Earlier t s l → Earlier log (skip l s) l
      before_dropped s earlier =
          let there = subst (Earlier log (skip l s)) next_here (earlier_there log t l is.dropped.without s l earlier) in
          let below = skip-below l s earlier.5 in
          let less = earlier.5 in (
            there.0,
            is.earlier.0,
            there.2,
            is.earlier.2,
            there.4 ∙ ap (λ (x : Event). x.proc) (event_unique log (suc l) there.1 is.earlier.1 there.3 is.earlier.3) ∙ sym is.earlier.4,
            omega (arith, below, less),
          )

-- an order with such a load gives one without it
pub dropped_keeps : (log t : TraceValue) (l : ℕ) → IsDropped log t l → IsConsistent log → IsConsistent t
dropped_keeps log t l is (order, right) = let kept = dropped_forward log t l is _ (ranks_of_order log order right) in order_of_ranks t kept.0 kept.1

-- an order without it gives one with it
pub repeat_back : (log t : TraceValue) (k l : ℕ) → IsRepeat log t k l → IsConsistent t → IsConsistent log
repeat_back log t k l is (order, right) =
    let ranks = ranks_of_order t order right in order_of_ranks log _ (dropped_back log t l is.dropped _ ranks k _ (fits_behind log t k l is _ ranks))

-- the same of a load that the next one repeats
pub repeated_back : (log t : TraceValue) (l : ℕ) → IsRepeatedNext log t l → IsConsistent t → IsConsistent log
repeated_back log t l is (order, right) =
    let ranks = ranks_of_order t order right in order_of_ranks log _ (dropped_back log t l is.dropped _ ranks l _ (fits_before log t l is _ ranks))

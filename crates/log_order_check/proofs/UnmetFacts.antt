-- Which axioms are met at an event that has just been passed.
use Rattle.std.proofs.Common.{◌≡◌, inl, inr, sym, ap, subst, refl, ℕ, suc, ◌<◌, ◌≤◌, None, List, slice_index, arith}
use Rattle.std.proofs.lemmas.Bool.{cases_eq, cases_lt}
use Rattle.tso_ops.specs.Values.{TraceValue}
use Rattle.tso_ops.specs.Events.{IsLoad, IsStore}
use Rattle.tso_ops.proofs.NumberFacts.{load_is_no_store, store_event}
use Rattle.tso_ops.proofs.SwapFacts.{IsSwapLoad-store}
use Rattle.tso_model.specs.Axioms.{place, ReadsGreatest}
use Rattle.tso_model.proofs.Places.{place_same}
use Rattle.order_check.specs.declared.faults.Axiom.{Axiom}
use Rattle.order_check.specs.declared.faults.Axiom.TheVariants.{LoadOp, StoreStore, Stbar, Membar, Atomicity, Value}
use Rattle.order_check.specs.Refusals.{axiom_number, IsFirstUnmet, MeetsAll, MeetsAt}
use Rattle.order_check.specs.Internal.Places.{ArePlaces}
use Rattle.order_check.proofs.MetFacts.{load_meets_atomicity}
use Rattle.log_order_check.specs.Internal.Most.{IsMost}
use Rattle.log_order_check.specs.Internal.Progress.{IsAwaited}
use Rattle.log_order_check.specs.Internal.Tables.{IsProgramFault}
use Rattle.log_order_check.proofs.MostFacts.{most_within}

-- at a store nothing is asked of what it read
store_meets_value : (t : TraceValue) (order : List ℕ) (n : ℕ) → IsStore t n → MeetsAt t order Value n
store_meets_value t order n store load = absurd (load_is_no_store t n load store)

module _ (t : TraceValue) (order : List ℕ) (n : ℕ) (program : IsProgramFault t order n None) where
  -- ---- a load

  pub unmet_value : IsLoad t n → (ReadsGreatest t order n → ⊥) → IsFirstUnmet t order n Value
  unmet_value load other = record { unmet = λ met. other (met load); lesser = lesser }
    where
      lesser : (law : Axiom) → axiom_number law < 5 → MeetsAt t order law n
      lesser LoadOp less = program LoadOp (omega arith)
      lesser StoreStore less = program StoreStore (omega arith)
      lesser Stbar less = program Stbar (omega arith)
      lesser Membar less = program Membar (omega arith)
      lesser Atomicity less = load_meets_atomicity t order n load
      lesser Value less = absurd (omega (arith, less))

  pub all_load : IsLoad t n → ReadsGreatest t order n → MeetsAll t order n
  all_load load reads LoadOp = program LoadOp (omega arith)
  all_load load reads StoreStore = program StoreStore (omega arith)
  all_load load reads Stbar = program Stbar (omega arith)
  all_load load reads Membar = program Membar (omega arith)
  all_load load reads Atomicity = load_meets_atomicity t order n load
  all_load load reads Value = λ is. reads

  -- ---- a store

  module _ (places : List ℕ) (are : ArePlaces t order places) (store : IsStore t n) (m : ℕ) (is : IsMost (IsAwaited t order (suc (place order n))) places m) where
    met_atomicity : m ≤ slice_index places n → MeetsAt t order Atomicity n
    met_atomicity low l swap stored other = elim (cases_lt (place order l) (place order n)) [
      | inl before ↦ inr (omega (
        arith,
        is.most (suc l) (l, refl, swap, omega (arith, before)),
        low,
        are.at (suc l) (store_event t (suc l) (IsSwapLoad-store t l swap)),
        are.at n (store_event t n store),
      ))
      | inr later ↦ inl (omega (arith, later))
    ]

    -- the store of a swap whose load is passed is passed with the event, where the axiom is met
    passed_with : MeetsAt t order Atomicity n → (s : ℕ) → IsAwaited t order (suc (place order n)) s → slice_index places s ≤ slice_index places n
    passed_with met s (l, is_next, swap, before) = elim (cases_eq n (suc l)) [
      | inl own ↦ (let same : slice_index places s ≡ slice_index places n = ap (slice_index places) (omega (arith, own, is_next)) in omega (arith, same))
      | inr other ↦ elim (met l swap store other) [
        | inl up_to ↦ absurd (
            let equal : place order n ≡ place order l = omega (arith, up_to, before) in
            let one : n ≡ l = place_same order n l (omega (arith, are.memory_order.once l (swap.0, swap.1))) equal in
            load_is_no_store t n (subst (IsLoad t) (sym one) (swap.0, swap.1, swap.2)) store)
        | inr closed ↦ (
            let next : slice_index places s ≡ slice_index places (suc l) = ap (slice_index places) is_next in
            omega (arith, next, closed, are.at (suc l) (store_event t (suc l) (IsSwapLoad-store t l swap)), are.at n (store_event t n store)))
      ]
    ]

    pub unmet_atomicity : slice_index places n < m → IsFirstUnmet t order n Atomicity
    unmet_atomicity past = record { unmet = λ met. (let low = most_within _ places m (slice_index places n) is (passed_with met) in omega (arith, past, low)); lesser = lesser }
      where
        lesser : (law : Axiom) → axiom_number law < 4 → MeetsAt t order law n
        lesser law less = program law less

    pub all_store : m ≤ slice_index places n → MeetsAll t order n
    all_store low LoadOp = program LoadOp (omega arith)
    all_store low StoreStore = program StoreStore (omega arith)
    all_store low Stbar = program Stbar (omega arith)
    all_store low Membar = program Membar (omega arith)
    all_store low Atomicity = met_atomicity low
    all_store low Value = store_meets_value t order n store

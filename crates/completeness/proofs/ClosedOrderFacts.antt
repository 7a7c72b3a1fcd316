-- A memory order that respects a closed order meets the axioms of the trace's model.
use Rattle.std.proofs.Common.{◌≡◌, ◌≢◌, ◌∙◌, ◌⊎◌, ℕ, zero, suc, ◌<◌, List, refl, sym, ap, arith, inl, inr}
use Rattle.std.proofs.lemmas.Bool.{cases_eq}
use Rattle.order_paths.proofs.Decisions.{Decision, Decision-some}
use Rattle.tso_ops.specs.declared.events.Event.{Event}
use Rattle.tso_ops.specs.Values.{TraceValue}
use Rattle.tso_ops.specs.Events.{event_total, IsLoad, IsStore, SameAddress, Earlier, HasSource, IsUnwritten}
use Rattle.tso_cert.specs.declared.rules.BaseRule.TheVariants.{Init, LoadOp, StoreStore, Stbar, Membar, Read, Own}
use Rattle.tso_cert.specs.declared.rules.InferredRule.TheVariants.{StorePast, SwapBefore}
use Rattle.tso_model.specs.Axioms.{place, IsUpTo, IsBefore, IsVisible, ReadsGreatest, IsMemoryOrder, IsModelOrder, MeetsAtomicity}
use Rattle.tso_ops.proofs.NumberFacts.{event_above_zero, event_unique, store_event, load_event, HasSource-within}
use Rattle.tso_model.proofs.Decided.{HasSource-decided, Earlier-decided}
use Rattle.tso_model.proofs.Places.{up_to_from_before, before_not_up_to}
use Rattle.completeness.specs.ClosedOrders.{IsClosedOrder, Respects}
use Rattle.completeness.proofs.SwapProcessors.{swap_earlier}

-- a load that isn't unwritten has a source, since whether some number is its source is decided
source_of_written : (t : TraceValue) (l : ℕ) → IsLoad t l → (IsUnwritten t l → ⊥) → (s : ℕ) × HasSource t l s
source_of_written t l load written = by_cases (Decision-some (λ s. HasSource t l s) (HasSource-decided t l) (suc (event_total t)) (λ s h. (HasSource-within t l s h).1))
  where
    by_cases : Decision ((s : ℕ) × HasSource t l s) → (s : ℕ) × HasSource t l s
    by_cases (inl some) = some
    by_cases (inr none) = absurd (written (load, λ s source. none (s, source)))

-- two events of the address of a third are of one address
same_address_of_both : (t : TraceValue) (l m n : ℕ) → SameAddress t m l → SameAddress t n l → SameAddress t m n
same_address_of_both t l m n one two =
    (one.0, two.0, one.2, two.2, one.4 ∙ ap (λ (e : Event). e.a) (event_unique t l one.1 two.1 one.3 two.3) ∙ sym two.4)

module _ (t : TraceValue) (Before : ℕ → ℕ → Type 0) (closed : IsClosedOrder t Before) (order : List ℕ) (respects : Respects order Before) where
  -- what the closed order has before another stands no later than it
  up_to : (u v : ℕ) → 0 < u → Before u v → IsUpTo order u v
  up_to u v above before = up_to_from_before order u v above (respects u v before)

  load_up_to : (u v : ℕ) → IsLoad t u → Before u v → IsUpTo order u v
  load_up_to u v load before = up_to u v (event_above_zero t u (load_event t u load)) before

  store_up_to : (u v : ℕ) → IsStore t u → Before u v → IsUpTo order u v
  store_up_to u v store before = up_to u v (event_above_zero t u (store_event t u store)) before

  -- A store that the load sees, other than its source and related to it, is before the source: after it, the store would be past the load,
  -- so the load could see it by store forwarding alone, and then the rule Own has it before the source.
  seen_before_source : (l s other : ℕ) → HasSource t l s → IsLoad t l → IsVisible t order other l → other ≢ s → Before other s ⊎ Before s other → Before other s
  seen_before_source l s other source load visible different related = by_cases related
    where
      by_sight : IsBefore order l other → IsUpTo order other l ⊎ Earlier t other l → Before other s
      by_sight past (inl no_later) = absurd (before_not_up_to order l other (event_above_zero t l (load_event t l load)) past no_later)
      by_sight past (inr earlier) = closed.base Own other s (l, (visible.0, visible.1, earlier, source, different))

      by_cases : Before other s ⊎ Before s other → Before other s
      by_cases (inl before) = before
      by_cases (inr after) =
          by_sight (respects l other (closed.inferred StorePast l l other s other (refl, visible.0, visible.1, source, different, refl) after)) visible.2

  -- a load whose source is `init` sees no store
  none_seen : (l : ℕ) → HasSource t l 0 → (other : ℕ) → IsVisible t order other l → ⊥
  none_seen l source other visible =
      let event = store_event t other visible.0 in
      let above : 0 < other = event_above_zero t other event in
      let first : Before 0 other = closed.base Init 0 other (refl, event) in
      let back : Before other 0 = seen_before_source l 0 other source source.0 visible (λ same. omega (arith, above, same)) (inr first) in
      closed.irreflexive 0 (closed.transitive 0 other 0 first back)

  -- a load sees the store that is its source
  source_seen : (l k : ℕ) → HasSource t l (suc k) → IsVisible t order (suc k) l
  source_seen l k source = (source.1, source.2, by_cases (Earlier-decided t (suc k) l))
    where
      by_cases : Decision (Earlier t (suc k) l) → IsUpTo order (suc k) l ⊎ Earlier t (suc k) l
      by_cases (inl earlier) = inr earlier
      by_cases (inr not_earlier) = inl (store_up_to (suc k) l source.1 (closed.base Read (suc k) l (source.1, source, not_earlier)))

  -- each store that it sees stands no later than that one
  source_greatest : (l k : ℕ) → HasSource t l (suc k) → (other : ℕ) → IsVisible t order other l → IsUpTo order other (suc k)
  source_greatest l k source other visible = by_cases (cases_eq other (suc k))
    where
      address : SameAddress t other (suc k)
      address = same_address_of_both t l other (suc k) visible.1 source.2

      by_cases : (other ≡ suc k) ⊎ (other ≡ suc k → ⊥) → IsUpTo order other (suc k)
      by_cases (inl same) = omega (arith, ap (place order) same)
      by_cases (inr different) =
          store_up_to other (suc k) visible.0
          (seen_before_source l (suc k) other source source.0 visible different (closed.stores other (suc k) visible.0 source.1 address different))

  -- Value, for a load that isn't unwritten
  reads_greatest : (l : ℕ) → IsLoad t l → (IsUnwritten t l → ⊥) → ReadsGreatest t order l
  reads_greatest l load written = let source = source_of_written t l load written in by_source source.0 source.1
    where
      by_source : (s : ℕ) → HasSource t l s → ReadsGreatest t order l
      by_source zero source = inl (source.1, none_seen l source)
      by_source (suc k) source = inr (suc k, source_seen l k source, source.3, source_greatest l k source)

  -- Atomicity: a store before the swap's store is before its load too
  meets_atomicity : MeetsAtomicity t order
  meets_atomicity l s swap store other = by_cases (closed.swaps l s swap store other)
    where
      by_cases : Before s (suc l) ⊎ Before (suc l) s → IsUpTo order s l ⊎ IsUpTo order (suc l) s
      by_cases (inl before) = inl (store_up_to s l store (closed.inferred SwapBefore l s l s (suc l) (swap, refl, store, other, refl, refl) before))
      by_cases (inr after) = inr (up_to (suc l) s (omega arith) after)

  -- the order meets all axioms
  pub order_of_closed : ((l : ℕ) → IsUnwritten t l → ⊥) → IsMemoryOrder t order → IsModelOrder t order
  order_of_closed written memory = record {
    memory_order = memory;
    load_op = λ u v load earlier. load_up_to u v load (closed.base LoadOp u v (load, earlier));
    store_store = λ u v store_u store_v earlier keeps. store_up_to u v store_u (closed.base StoreStore u v (store_u, store_v, earlier, keeps));
    stbar = λ u v store_u store_v earlier fewer. store_up_to u v store_u (closed.base Stbar u v (store_u, store_v, earlier, fewer));
    membar = λ u v store load earlier fewer. store_up_to u v store (closed.base Membar u v (store, load, earlier, fewer));
    swap = λ l swap.
        let load : IsLoad t l = (swap.0, swap.1, swap.2) in
        load_up_to l (suc l) load (closed.base LoadOp l (suc l) (load, swap_earlier t l swap));
    atomicity = meets_atomicity;
    value = λ l load. reads_greatest l load (written l);
  }

-- An order of the trace's model, with `init` in front, is a closed order of the trace.
use Rattle.std.proofs.Common.{◌≢◌, ◌⊎◌, ℕ, suc, List, sym, arith, inl, inr}
use Rattle.tso_ops.specs.Values.{TraceValue}
use Rattle.tso_ops.specs.Events.{IsEvent}
use Rattle.tso_model.specs.Axioms.{IsUpTo, IsBefore, IsModelOrder}
use Rattle.tso_ops.proofs.NumberFacts.{HasOwnValues, event_above_zero, store_event}
use Rattle.tso_ops.proofs.SwapFacts.{IsSwapLoad-store}
use Rattle.tso_model.proofs.Places.{before_from_up_to, before_or_up_to}
use Rattle.tso_model.proofs.EdgesForward.{base_before, inferred_before}
use Rattle.completeness.specs.ClosedOrders.{IsClosedOrder}

module _ (t : TraceValue) (own : HasOwnValues t) (order : List ℕ) (axioms : IsModelOrder t order) where
  -- of two events one stands before the other
  one_before : (u v : ℕ) → IsEvent t u → IsEvent t v → u ≢ v → IsBefore order u v ⊎ IsBefore order v u
  one_before u v event_u event_v different = by_cases (before_or_up_to order u v (event_above_zero t u event_u) (event_above_zero t v event_v))
    where
      by_cases : IsBefore order u v ⊎ IsUpTo order v u → IsBefore order u v ⊎ IsBefore order v u
      by_cases (inl first) = inl first
      by_cases (inr no_later) =
          let once = axioms.memory_order.once u event_u in
          inr (before_from_up_to order v u (omega (arith, once)) (event_above_zero t u event_u) (λ same. different (sym same)) no_later)

  pub model_order_closed : IsClosedOrder t (λ u v. IsBefore order u v)
  model_order_closed = record {
    transitive = λ u v w one two. omega (arith, one, two);
    irreflexive = λ u before. omega (arith, before);
    base = base_before t own order axioms;
    inferred = inferred_before t own order axioms;
    stores = λ u v store_u store_v address different. one_before u v (store_event t u store_u) (store_event t v store_v) different;
    swaps = λ l s swap store other. one_before s (suc l) (store_event t s store) (store_event t (suc l) (IsSwapLoad-store t l swap)) other;
  }

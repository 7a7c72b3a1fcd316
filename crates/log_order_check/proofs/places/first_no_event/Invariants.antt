use Rattle.std.proofs.Common.{◌≡◌, ◌<◌, ◌+◌, ℕ, Some, slice_get}
use Rattle.tso_ops.specs.Values.{TraceValue}
use Rattle.tso_ops.specs.Events.{event_total}
use Rattle.order_check.specs.Refusals.{IsNoEventAt}
use Rattle.log_order_check.proofs.places.first_no_event.Given as goal

abbrev pub invariant-loop-k : goal.invariant-loop-k
invariant-loop-k l = record {
  events : (t : TraceValue) → event_total t ≡ l.count → (j : ℕ) → j < l.k → IsNoEventAt t l.order j → ⊥;
  within : (j n : ℕ) → j < l.k → slice_get l.order j ≡ Some n → n < l.count + 1;
}

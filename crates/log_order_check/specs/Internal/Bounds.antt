-- What the axioms of program order ask of an event's place.
use Rattle.std.specs.Prelude.{ℕ, List}
use Rattle.tso_ops.specs.Values.{TraceValue}
use Rattle.tso_ops.specs.Events.{Earlier, IsLoad, IsStore, KeepsStores, HasFewerBarriersBefore, HasFewerStbarsBefore}
use Rattle.log_order_check.specs.declared.faults.Bounds.{Bounds}
use Rattle.log_order_check.specs.Internal.Most.{IsMost}

-- The greatest places of the events that the axioms of program order want before event n, where it is a load or a store as each asks.
pub record AreBounds (t : TraceValue) (places : List ℕ) (n : ℕ) (bounds : Bounds) : Type 0 where
  pub loads : IsMost (λ u. IsLoad t u × Earlier t u n) places bounds.loads
  pub kept : IsMost (λ u. IsStore t u × Earlier t u n × KeepsStores t u n) places bounds.kept
  pub stbar : IsMost (λ u. IsStore t u × Earlier t u n × HasFewerStbarsBefore t u n) places bounds.stbar
  pub barrier : IsMost (λ u. IsStore t u × Earlier t u n × HasFewerBarriersBefore t u n) places bounds.barrier

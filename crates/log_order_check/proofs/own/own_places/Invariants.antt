use Rattle.std.proofs.Common.{◌≡◌, ◌<◌, ℕ, suc, length, slice_index}
use Rattle.tso_ops.specs.Values.{TraceValue}
use Rattle.program_chains.specs.LogEvents.{AreEventsOf}
use Rattle.log_order_check.specs.Internal.Most.{IsMost}
use Rattle.log_order_check.specs.Internal.Passed.{IsStoreToUpTo}
use Rattle.log_order_check.specs.Internal.Tables.{IsOwnStore, pair_looked_up}
use Rattle.log_order_check.proofs.own.own_places.Given as goal

-- the map has the greatest places of the stores so far, and the table what is asked of the events so far
abbrev pub invariant-loop-x : goal.invariant-loop-x
invariant-loop-x l = record {
  sized : length l.own.items ≡ l.x;
  stores : (t : TraceValue) → AreEventsOf t l.events → (key : ℕ × ℕ) → IsMost (IsStoreToUpTo t l.x key) l.places (pair_looked_up l.stores key);
  each : (t : TraceValue) → AreEventsOf t l.events → (y : ℕ) → y < l.x → IsMost (IsOwnStore t (suc y)) l.places (slice_index l.own.items y);
}

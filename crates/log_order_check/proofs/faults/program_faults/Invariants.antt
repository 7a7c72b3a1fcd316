use Rattle.std.proofs.Common.{◌≡◌, ◌<◌, ℕ, suc, None, List, length, get_or}
use Rattle.tso_ops.specs.Values.{TraceValue}
use Rattle.order_check.specs.Internal.Places.{ArePlaces}
use Rattle.program_chains.specs.LogEvents.{AreEventsOf}
use Rattle.log_order_check.specs.Internal.Passed.{IsPassed, processor_in}
use Rattle.log_order_check.specs.Internal.Tables.{AreOwnPlaces, IsProgramFault}
use Rattle.log_order_check.proofs.faults.program_faults.Given as goal

-- the map has what is known of the processors so far, and the table what isn't met at the events so far
abbrev pub invariant-loop-x : goal.invariant-loop-x
invariant-loop-x l = record {
  sized : length l.faults.items ≡ l.x;
  processors : (t : TraceValue) → AreEventsOf t l.events → (p : ℕ) → IsPassed t l.places l.x p (processor_in l.processors p);
  each : (t : TraceValue) (order : List ℕ) → t.setting.order ≡ l.model → AreEventsOf t l.events → ArePlaces t order l.places → AreOwnPlaces t l.places (length l.events) l.own →
      (y : ℕ) → y < l.x → IsProgramFault t order (suc y) (get_or l.faults.items y None);
}

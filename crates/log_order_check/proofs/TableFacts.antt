-- What the tables have of an event.
use Rattle.std.proofs.Common.{◌≡◌, subst, ℕ, suc, ◌-◌, ◌<◌, ◌≤◌, None, List, length, get_or, slice_index, arith}
use Rattle.tso_ops.specs.Values.{TraceValue}
use Rattle.tso_ops.specs.Events.{IsEvent}
use Rattle.tso_ops.proofs.NumberFacts.{IsEvent-within}
use Rattle.program_chains.proofs.EventFacts.{total}
use Rattle.log_order_check.specs.declared.tables.Tables.{Tables}
use Rattle.log_order_check.specs.Internal.Most.{IsMost}
use Rattle.log_order_check.specs.Internal.Tables.{AreTables, IsOwnStore, IsProgramFault}

module _ (t : TraceValue) (order : List ℕ) (tables : Tables) (are : AreTables t order tables) (n x : ℕ) (above : 1 ≤ n) (before : x ≡ n - 1) (event : IsEvent t n) where
  number : suc x ≡ n
  number = omega (arith, above, before)

  within : x < length tables.events.items
  within = (let low = IsEvent-within t n event in omega (arith, low, number, total t tables.events.items are.events))

  pub own_at : IsMost (IsOwnStore t n) tables.places.items (slice_index tables.own.items x)
  own_at = subst (λ m. IsMost (IsOwnStore t m) tables.places.items (slice_index tables.own.items x)) number (are.own.each x within)

  pub fault_at : IsProgramFault t order n (get_or tables.faults.items x None)
  fault_at = subst (λ m. IsProgramFault t order m (get_or tables.faults.items x None)) number (are.faults.each x within)

-- The table of places.
use Rattle.std.specs.Prelude.{◌≡◌, ◌⊎◌, ℕ, suc, ◌<◌, List, length, slice_index}
use Rattle.tso_ops.specs.Values.{TraceValue}
use Rattle.tso_ops.specs.Events.{IsEvent}
use Rattle.tso_model.specs.Axioms.{occurrences, place, IsMemoryOrder}

-- the table says where the number stands in the list, which is once, or else it doesn't stand there
abbrev pub TellsPlace : List ℕ → List ℕ → ℕ → Type 0
TellsPlace order places n =
    ((occurrences n order ≡ 0) × (slice_index places n ≡ 0)) ⊎ ((occurrences n order ≡ 1) × (slice_index places n ≡ suc (place order n)))

-- The table says where each number that has a row stands.
pub record HasPlaces (order places : List ℕ) : Type 0 where
  pub each : (n : ℕ) → n < length places → TellsPlace order places n

-- Each event stands in the list once, nothing else does, and the table says where.
pub record ArePlaces (t : TraceValue) (order places : List ℕ) : Type 0 where
  pub memory_order : IsMemoryOrder t order
  pub zero_has_none : slice_index places 0 ≡ 0
  pub at : (n : ℕ) → IsEvent t n → slice_index places n ≡ suc (place order n)

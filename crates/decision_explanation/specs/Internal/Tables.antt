-- What the tables of an explanation keep.
use Rattle.std.specs.Prelude.{◌≡◌, ℕ, suc, ◌+◌, ◌<◌, List, length, get_or, drop}
use Rattle.tso_ops.specs.Values.{TraceValue}
use Rattle.tso_ops.specs.Events.{event_total}
use Rattle.tso_model.specs.Axioms.{place}
use Rattle.decision_explanation.specs.declared.orders.PlacedOrder.{PlacedOrder}

-- the table has the place in the list of each number below this one
pub record ArePlaces (order : List ℕ) (count : ℕ) (places : List ℕ) : Type 0 where
  pub counted : length places ≡ count
  pub each : (n : ℕ) → n < count → get_or places n 0 ≡ place order n

-- the table has the places of number 0 and of the trace's events
abbrev pub ArePlacesIn : TraceValue → PlacedOrder → Type 0
ArePlacesIn t order = ArePlaces order.numbers.now (suc (event_total t)) order.places.items

-- the same of the list from this place on, where places count from the list's beginning
pub record ArePlacesFrom (order : List ℕ) (k : ℕ) (count : ℕ) (places : List ℕ) : Type 0 where
  pub counted : length places ≡ count
  pub each : (n : ℕ) → n < count → get_or places n 0 ≡ k + place (drop k order) n

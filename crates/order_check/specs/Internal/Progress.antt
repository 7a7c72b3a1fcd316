-- What is known of a list once some of its events are passed.
use Rattle.std.specs.Prelude.{◌≡◌, ◌⊎◌, ◌↔◌, ℕ, suc, ◌<◌, ◌≤◌, Bool, IsTrue, List, Some, length, slice_index}
use Rattle.bitsets.specs.Rows.{HasNumber}
use Rattle.tso_ops.specs.Values.{TraceValue}
use Rattle.tso_ops.specs.Limits.{IsTrace}
use Rattle.tso_ops.specs.declared.events.Event.{Event}
use Rattle.tso_ops.specs.Events.{event_at, IsEvent, IsStoreTo}
use Rattle.tso_model.specs.Axioms.{place}
use Rattle.order_check.specs.declared.progress.Progress.{Progress}
use Rattle.order_check.specs.Internal.Places.{ArePlaces}

-- m is the place, from 1, of the last store to the address among the first k events; 0 where there is none
pub record IsLastPlace (t : TraceValue) (order : List ℕ) (k a m : ℕ) : Type 0 where
  pub most : (s : ℕ) → IsStoreTo t a s → place order s < k → place order s < m
  pub some : (m ≡ 0) ⊎ ((s : ℕ) × IsStoreTo t a s × (place order s < k) × (m ≡ suc (place order s)))

-- The first k events of the list are passed.
pub record HasPassed (t : TraceValue) (order : List ℕ) (k : ℕ) (progress : Progress) : Type 0 where
  pub trace : IsTrace t
  pub places : ArePlaces t order progress.places.items
  pub left : (n : ℕ) → HasNumber progress.left.items n ↔ (IsEvent t n × (k ≤ place order n))
  pub addresses : length progress.last.items ≡ 256
  pub last : (a : ℕ) → a < 256 → IsLastPlace t order k a (slice_index progress.last.items a)

-- the events up to this one are passed
abbrev pub HasJustPassed : TraceValue → List ℕ → ℕ → Progress → Type 0
HasJustPassed t order n progress = HasPassed t order (suc (place order n)) progress

-- the answer about event n, which has just been passed, says of each order that can have been passed so whether this is so
abbrev pub IsAnswerAt : TraceValue → Progress → ℕ → Event → Bool → (List ℕ → Type 0) → Type 0
IsAnswerAt t progress n event answer Fact = (order : List ℕ) → HasJustPassed t order n progress → event_at t n ≡ Some event → IsTrue answer ↔ Fact order

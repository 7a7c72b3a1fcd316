-- How the table of source masks is made, from the last load on, and which load a search over rows of bits finds.
use Rattle.std.specs.Prelude.{◌≡◌, ◌↔◌, ℕ, suc, ◌*◌, ◌/◌, ◌<◌, ◌≤◌, List, Some, length}
use Rattle.tso_ops.specs.Values.{TraceValue}
use Rattle.tso_ops.specs.declared.events.Event.{Event}
use Rattle.tso_ops.specs.Events.{event_total, event_at, IsLoad, HasSource, SameAddress, Earlier}
use Rattle.bitsets.specs.Rows.{HasNumber}
use Rattle.bitsets.specs.Tables.{IsSet}
use Rattle.tso_rules.specs.SourceMasks.{IsSourceFrom}

-- number k is above n, in the first two rows and not in the third
abbrev pub IsCommonAbove : List ℕ → List ℕ → List ℕ → ℕ → ℕ → Type 0
IsCommonAbove one two other n k = (n < k) × HasNumber one k × HasNumber two k × (HasNumber other k → ⊥)

-- k is the first such number
abbrev pub IsFirstAbove : List ℕ → List ℕ → List ℕ → ℕ → ℕ → Type 0
IsFirstAbove one two other n k = IsCommonAbove one two other n k × ((j : ℕ) → j < k → IsCommonAbove one two other n j → ⊥)

-- the events are of one processor
abbrev pub AreOfOneProcessor : TraceValue → ℕ → ℕ → Type 0
AreOfOneProcessor t m n = (d : Event) × (e : Event) × (event_at t m ≡ Some d) × (event_at t n ≡ Some e) × (d.proc ≡ e.proc)

-- m is a load of event l's address, and program-later
abbrev pub IsLaterLoad : TraceValue → ℕ → ℕ → Type 0
IsLaterLoad t l m = IsLoad t m × SameAddress t l m × Earlier t l m

-- m is the first such load
abbrev pub IsNextLoad : TraceValue → ℕ → ℕ → Type 0
IsNextLoad t l m = IsLaterLoad t l m × ((k : ℕ) → k < m → IsLaterLoad t l k → ⊥)

-- v is the source of such a load
abbrev pub IsSourceAfter : TraceValue → ℕ → ℕ → Type 0
IsSourceAfter t l v = (m : ℕ) × IsLaterLoad t l m × HasSource t m v

-- The rows of the loads from number n on are made, and the others are empty.
pub record AreMasksFrom (t : TraceValue) (words : List ℕ) (width n : ℕ) : Type 0 where
  pub sized : length words ≡ suc (event_total t) * width
  pub made : (l v : ℕ) → n ≤ l → IsLoad t l → v / 64 < width → IsSet words width l v ↔ IsSourceFrom t l v
  pub empty : (l v : ℕ) → l < n → v / 64 < width → IsSet words width l v → ⊥

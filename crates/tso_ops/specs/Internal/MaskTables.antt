-- The tables of rows of bits that a trace keeps, and what setting one bit does to them.
use Rattle.std.specs.Prelude.{◌≡◌, ◌⊎◌, ◌↔◌, ℕ, suc, ◌<◌, IsTrue, IsFalse, List, [], Option, None, Some, slice_get, slice_index_or}
use Rattle.tso_ops.specs.declared.events.Event.{Event}
use Rattle.tso_ops.specs.declared.events.Source.{Source}
use Rattle.tso_ops.specs.declared.events.Source.TheVariants.{Init, Store, Unwritten}
use Rattle.tso_ops.specs.declared.masks.Kind.{Kind}
use Rattle.tso_ops.specs.declared.masks.Kind.TheVariants.{Loads, Stores, SwapLoads, Processors, Barriers, Stbars, AllStores}
use Rattle.tso_ops.specs.declared.masks.Masks.{Masks}
use Rattle.tso_ops.specs.Values.{TraceValue, rows}
use Rattle.tso_ops.specs.Events.{event_at, HasSource}
use Rattle.bitsets.specs.Rows.{HasNumber, IsMask}

-- row r of the table of this kind has the event's number
abbrev pub IsInRow : Kind → ℕ → Event → Type 0
IsInRow Loads r e = IsTrue e.load × (e.a ≡ r)
IsInRow Stores r e = IsFalse e.load × (e.a ≡ r)
IsInRow SwapLoads r e = IsTrue e.load × IsTrue e.swap × (r ≡ 0)
IsInRow Processors r e = e.proc ≡ r
IsInRow Barriers r e = e.bars ≡ r
IsInRow Stbars r e = e.stbars ≡ r
IsInRow AllStores r e = IsFalse e.load × (r ≡ 0)

-- the event of this number is one of row r
abbrev pub IsOfRow : TraceValue → Kind → ℕ → ℕ → Type 0
IsOfRow t kind r n = (e : Event) × (event_at t n ≡ Some e) × IsInRow kind r e

-- row r has the number of the event at place k of the list, from 0
abbrev pub HasEventRow : List Event → Kind → ℕ → ℕ → Type 0
HasEventRow events kind k r = (e : Event) × (slice_get events k ≡ Some e) × IsInRow kind r e

-- the number of a source: 0 for the first values
abbrev pub source_number : Source → Option ℕ
source_number Init = Some 0
source_number (Store s) = Some s
source_number Unwritten = None

-- row s has the number of the load at place k of the list, whose source it is
abbrev pub HasSourceRow : List (Option Source) → ℕ → ℕ → Type 0
HasSourceRow sources k s = (source : Source) × (slice_get sources k ≡ Some (Some source)) × (source_number source ≡ Some s)

-- n is the number of a place before `count` whose row is r
abbrev pub IsAmong : (ℕ → ℕ → Type 0) → ℕ → ℕ → ℕ → Type 0
IsAmong HasRow count r n = (k : ℕ) × (k < count) × (n ≡ suc k) × HasRow k r

-- Each row has the bits of its numbers among the first `count`.
pub record AreMaskRowsAmong (HasRow : ℕ → ℕ → Type 0) (count : ℕ) (table : List (List ℕ)) : Type 0 where
  pub each : (r : ℕ) → IsMask (slice_index_or table r []) (IsAmong HasRow count r)

-- Each row has the bits of its numbers.
pub record AreMaskRows (IsOf : ℕ → ℕ → Type 0) (table : List (List ℕ)) : Type 0 where
  pub each : (r : ℕ) → IsMask (slice_index_or table r []) (IsOf r)

-- load l has this source
abbrev pub IsReadFrom : TraceValue → ℕ → ℕ → Type 0
IsReadFrom t s l = HasSource t l s

-- The new table has one bit more, that of the number in this row, if there is a row.
pub record MarksInRow (old new : List (List ℕ)) (row : Option ℕ) (number : ℕ) : Type 0 where
  pub bits : (r n : ℕ) → HasNumber (slice_index_or new r []) n ↔ (HasNumber (slice_index_or old r []) n ⊎ ((row ≡ Some r) × (n ≡ number)))

-- The tables of a trace.
pub record AreMasks (t : TraceValue) (masks : Masks) : Type 0 where
  pub loads : AreMaskRows (IsOfRow t Loads) (rows masks.loads.items)
  pub stores : AreMaskRows (IsOfRow t Stores) (rows masks.stores.items)
  pub swap_loads : AreMaskRows (IsOfRow t SwapLoads) (rows masks.swap_loads.items)
  pub processors : AreMaskRows (IsOfRow t Processors) (rows masks.processors.items)
  pub barriers : AreMaskRows (IsOfRow t Barriers) (rows masks.barriers.items)
  pub stbars : AreMaskRows (IsOfRow t Stbars) (rows masks.stbars.items)
  pub all_stores : AreMaskRows (IsOfRow t AllStores) (rows masks.all_stores.items)
  pub readers : AreMaskRows (IsReadFrom t) (rows masks.readers.items)

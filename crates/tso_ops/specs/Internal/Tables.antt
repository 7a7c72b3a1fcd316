-- The tables that a trace answers from: its events, the stores by their values, the sources of its loads, and its rows of bits.
use Rattle.std.specs.Prelude.{◌≡◌, ℕ, suc, ◌<◌, IsFalse, List, length, Option, None, Some, MatchOption, slice_get}
use Rattle.std.specs.Ordering.{nat_cmp}
use Rattle.std.specs.Global.{Vec}
use Rattle.std.specs.BTreeMap.{BTreeMap, get}
use Rattle.tso_ops.specs.declared.ops.Outcome.{Outcome}
use Rattle.tso_ops.specs.declared.events.Event.{Event}
use Rattle.tso_ops.specs.declared.events.Source.{Source}
use Rattle.tso_ops.specs.Settings.{SettingValue}
use Rattle.tso_ops.specs.Values.{TraceValue, rows, trace_of_lists}
use Rattle.tso_ops.specs.Limits.{IsTrace}
use Rattle.tso_ops.specs.declared.masks.Masks.{Masks}
use Rattle.tso_ops.specs.Internal.MaskTables.{AreMasks}
use Rattle.tso_ops.specs.Events.{events_of, event_total, IsLoad, SourceIs}

-- event k of the list, from 0, is a store of the value
abbrev pub IsStoreAt : List Event → ℕ → ℕ → Type 0
IsStoreAt events k value = (e : Event) × (slice_get events k ≡ Some e) × IsFalse e.load × (e.value ≡ value)

-- What a look-up of a value gives, after the first `count` events: the number of a store of it, or else there is none.
abbrev pub FindsStore : List Event → ℕ → ℕ → Option ℕ → Type 0
FindsStore events count value found =
    MatchOption found ((k : ℕ) → k < count → IsStoreAt events k value → ⊥)
    (λ n. (k : ℕ) × (k < count) × (n ≡ suc k) × IsStoreAt events k value)

-- the map finds the stores among the first `count` events by their values
abbrev pub FindsStores : List Event → ℕ → BTreeMap ℕ ℕ → Type 0
FindsStores events count stores = (value : ℕ) → FindsStore events count value (get nat_cmp stores value)

-- what a row of the table of sources says of event n
abbrev pub IsSourceRow : TraceValue → ℕ → Option Source → Type 0
IsSourceRow t n None = IsLoad t n → ⊥
IsSourceRow t n (Some source) = IsLoad t n × SourceIs t n source

-- The table has a row for each event.
pub record AreSources (t : TraceValue) (sources : List (Option Source)) : Type 0 where
  pub rows_in : length sources ≡ event_total t
  pub each : (k : ℕ) (row : Option Source) → slice_get sources k ≡ Some row → IsSourceRow t (suc k) row

-- What the type `Trace` keeps.
pub record IsTabled (setting : SettingValue) (lists : List (Vec Outcome)) (events : List Event) (sources : List (Option Source)) (masks : Masks) : Type 0 where
  pub trace : IsTrace (trace_of_lists setting (rows lists))
  pub events_are : events ≡ events_of (trace_of_lists setting (rows lists))
  pub sources_are : AreSources (trace_of_lists setting (rows lists)) sources
  pub masks_are : AreMasks (trace_of_lists setting (rows lists)) masks

-- The events of a trace, program order, barriers and sources.
use Rattle.std.specs.Prelude.{◌≡◌, ◌⊎◌, ℕ, zero, suc, ◌<◌, true, false, IsTrue, IsFalse, List, [], ◌∷◌, ◌++◌, length, Option, None, Some, slice_get, get_or}
use Rattle.tso_ops.specs.declared.ops.Outcome.{Outcome}
use Rattle.tso_ops.specs.declared.ops.Outcome.TheVariants.{Ld, St, Sw, Mb, Sb}
use Rattle.tso_ops.specs.declared.events.Event.{Event}
use Rattle.tso_ops.specs.declared.events.Source.{Source}
use Rattle.tso_ops.specs.declared.events.Source.TheVariants.{Init, Store, Unwritten}
use Rattle.tso_ops.specs.declared.settings.Order.TheVariants.{Tso}
use Rattle.tso_ops.specs.Settings.{first_value}
use Rattle.tso_ops.specs.Values.{TraceValue}

-- the number of processors
abbrev pub processor_count : TraceValue → ℕ
processor_count t = length t.lists

-- what processor p did; nothing where there is no such processor
abbrev pub outcomes_at : TraceValue → ℕ → List Outcome
outcomes_at t p = get_or t.lists p []

-- The events of processor p's operations, after this many barriers and STBARs. A swap gives its load and then its store, a barrier of either
-- kind none.
abbrev pub events_from : ℕ → ℕ → ℕ → List Outcome → List Event
events_from p bars stbars [] = []
events_from p bars stbars (Ld a r ∷ ops) =
    record { proc = p; load = true; swap = false; a = a; value = r; bars = bars; stbars = stbars } ∷ events_from p bars stbars ops
events_from p bars stbars (St a v ∷ ops) =
    record { proc = p; load = false; swap = false; a = a; value = v; bars = bars; stbars = stbars } ∷ events_from p bars stbars ops
events_from p bars stbars (Sw a r v ∷ ops) =
    record { proc = p; load = true; swap = true; a = a; value = r; bars = bars; stbars = stbars }
    ∷ record { proc = p; load = false; swap = true; a = a; value = v; bars = bars; stbars = stbars } ∷ events_from p bars stbars ops
events_from p bars stbars (Mb ∷ ops) = events_from p (suc bars) stbars ops
events_from p bars stbars (Sb ∷ ops) = events_from p bars (suc stbars) ops

-- The events of these processors' lists, the first of which is processor p's.
abbrev pub events_of_lists : ℕ → List (List Outcome) → List Event
events_of_lists p [] = []
events_of_lists p (ops ∷ lists) = events_from p 0 0 ops ++ events_of_lists (suc p) lists

-- The events in file order.
unfoldable pub events_of : TraceValue → List Event
events_of t = events_of_lists 0 t.lists

-- the number of events
abbrev pub event_total : TraceValue → ℕ
event_total t = length (events_of t)

-- Event number n, from 1. Number 0 is the writer of the first values, and no event.
unfoldable pub event_at : TraceValue → ℕ → Option Event
event_at t zero = None
event_at t (suc k) = slice_get (events_of t) k

abbrev pub IsEvent : TraceValue → ℕ → Type 0
IsEvent t n = (e : Event) × (event_at t n ≡ Some e)

abbrev pub IsLoad : TraceValue → ℕ → Type 0
IsLoad t n = (e : Event) × (event_at t n ≡ Some e) × IsTrue e.load

abbrev pub IsStore : TraceValue → ℕ → Type 0
IsStore t n = (e : Event) × (event_at t n ≡ Some e) × IsFalse e.load

-- a swap's load, whose store is the next number
abbrev pub IsSwapLoad : TraceValue → ℕ → Type 0
IsSwapLoad t n = (e : Event) × (event_at t n ≡ Some e) × IsTrue e.load × IsTrue e.swap

-- event n is a load of the address
abbrev pub IsLoadAt : TraceValue → ℕ → ℕ → Type 0
IsLoadAt t a n = (e : Event) × (event_at t n ≡ Some e) × IsTrue e.load × (e.a ≡ a)

-- event n is a store to the address
abbrev pub IsStoreTo : TraceValue → ℕ → ℕ → Type 0
IsStoreTo t a n = (e : Event) × (event_at t n ≡ Some e) × IsFalse e.load × (e.a ≡ a)

-- event n is one of processor p
abbrev pub IsEventOf : TraceValue → ℕ → ℕ → Type 0
IsEventOf t p n = (e : Event) × (event_at t n ≡ Some e) × (e.proc ≡ p)

-- so many barriers stand before event n on its processor
abbrev pub HasBarriersBefore : TraceValue → ℕ → ℕ → Type 0
HasBarriersBefore t bars n = (e : Event) × (event_at t n ≡ Some e) × (e.bars ≡ bars)

-- so many STBARs stand before event n on its processor
abbrev pub HasStbarsBefore : TraceValue → ℕ → ℕ → Type 0
HasStbarsBefore t stbars n = (e : Event) × (event_at t n ≡ Some e) × (e.stbars ≡ stbars)

abbrev pub HasValue : TraceValue → ℕ → ℕ → Type 0
HasValue t n value = (e : Event) × (event_at t n ≡ Some e) × (e.value ≡ value)

-- event n has the first value of its address
abbrev pub HasFirstValue : TraceValue → ℕ → Type 0
HasFirstValue t n = (e : Event) × (event_at t n ≡ Some e) × (e.value ≡ first_value t.setting.first e.a)

abbrev pub SameAddress : TraceValue → ℕ → ℕ → Type 0
SameAddress t u v = (d : Event) × (e : Event) × (event_at t u ≡ Some d) × (event_at t v ≡ Some e) × (d.a ≡ e.a)

abbrev pub SameValue : TraceValue → ℕ → ℕ → Type 0
SameValue t u v = (d : Event) × (e : Event) × (event_at t u ≡ Some d) × (event_at t v ≡ Some e) × (d.value ≡ e.value)

-- u is program-earlier than v
abbrev pub Earlier : TraceValue → ℕ → ℕ → Type 0
Earlier t u v = (d : Event) × (e : Event) × (event_at t u ≡ Some d) × (event_at t v ≡ Some e) × (d.proc ≡ e.proc) × (u < v)

-- more barriers stand before v than before u on their processors: of two events of one processor, a barrier stands between them
abbrev pub HasFewerBarriersBefore : TraceValue → ℕ → ℕ → Type 0
HasFewerBarriersBefore t u v = (d : Event) × (e : Event) × (event_at t u ≡ Some d) × (event_at t v ≡ Some e) × (d.bars < e.bars)

-- the same of STBARs
abbrev pub HasFewerStbarsBefore : TraceValue → ℕ → ℕ → Type 0
HasFewerStbarsBefore t u v = (d : Event) × (e : Event) × (event_at t u ≡ Some d) × (event_at t v ≡ Some e) × (d.stbars < e.stbars)

-- the memory model keeps the program order of the stores u and v, with no STBAR between them: TSO of any two, PSO of those to one address
abbrev pub KeepsStores : TraceValue → ℕ → ℕ → Type 0
KeepsStores t u v = (t.setting.order ≡ Tso) ⊎ SameAddress t u v

-- Number s wrote the value that load l read: number 0 if it read the first value of its address; a store if it wrote that value to the load's
-- address. In a trace that is one number at most, since no store writes a first value and no two stores write one value.
abbrev pub HasSource : TraceValue → ℕ → ℕ → Type 0
HasSource t l zero = IsLoad t l × HasFirstValue t l
HasSource t l (suc k) = IsLoad t l × IsStore t (suc k) × SameAddress t (suc k) l × SameValue t (suc k) l

-- a load whose value nothing wrote
abbrev pub IsUnwritten : TraceValue → ℕ → Type 0
IsUnwritten t l = IsLoad t l × ((s : ℕ) → HasSource t l s → ⊥)

-- where load l's value comes from
abbrev pub SourceIs : TraceValue → ℕ → Source → Type 0
SourceIs t l Init = HasSource t l 0
SourceIs t l (Store s) = HasSource t l s × (0 < s)
SourceIs t l Unwritten = IsUnwritten t l

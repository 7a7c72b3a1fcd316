-- Events by their numbers: these are from 1 to the number of events, a number has one event, and a load has one source.
use Rattle.std.proofs.Common.{◌≡◌, ℕ, zero, suc, ◌<◌, ◌≤◌, Some, true, false, refl, subst, arith}
use Rattle.std.proofs.lemmas.Option.{none-some, slice_get_within}
use Rattle.tso_ops.specs.Settings.{first_value}
use Rattle.tso_ops.specs.Values.{TraceValue}
use Rattle.tso_ops.specs.Limits.{IsTrace}
use Rattle.tso_ops.specs.declared.events.Event.{Event}
use Rattle.tso_ops.specs.declared.events.Source.{Source}
use Rattle.tso_ops.specs.declared.events.Source.TheVariants.{Init}
use Rattle.tso_ops.specs.Events.{events_of, event_total, event_at, IsEvent, IsLoad, IsStore, HasValue, SameAddress, SameValue, HasSource, IsUnwritten, SourceIs}
use Rattle.tso_ops.proofs.EventFacts.{store_value_not_first, stores_distinct}

-- What the laws need of a trace: each store has a value of its own, which is no first value of any address.
pub record HasOwnValues (t : TraceValue) : Type 0 where
  pub not_first : (n a value : ℕ) → IsStore t n → HasValue t n value → (value ≡ first_value t.setting.first a) → ⊥
  pub distinct : (m n : ℕ) → IsStore t m → IsStore t n → SameValue t m n → m ≡ n

-- the limits of a trace give it these
pub own_values : (t : TraceValue) → IsTrace t → HasOwnValues t
own_values t trace = record { not_first = store_value_not_first t trace; distinct = stores_distinct t trace }

-- an event's number is from 1 to the number of events
pub event_at-within : (t : TraceValue) (n : ℕ) (e : Event) → event_at t n ≡ Some e → (0 < n) × (n ≤ event_total t)
unfolding event_at
event_at-within t zero e at = absurd (none-some e at)
event_at-within t (suc k) e at = let below : k < event_total t = slice_get_within (events_of t) k e at in (omega arith, omega arith)

-- an event's number is above 0
pub event_above_zero : (t : TraceValue) (n : ℕ) → IsEvent t n → 0 < n
event_above_zero t n event = (event_at-within t n event.0 event.1).0

-- a number has one event
pub event_unique : (t : TraceValue) (n : ℕ) (d e : Event) → event_at t n ≡ Some d → event_at t n ≡ Some e → d ≡ e
event_unique t n d e left right = cc

-- no event is a load and a store
pub load_is_no_store : (t : TraceValue) (n : ℕ) → IsLoad t n → IsStore t n → ⊥
load_is_no_store t n load store =
    let same = event_unique t n load.0 store.0 load.1 store.1 in
    let is_load : load.0.load ≡ true = load.2 in
    let is_store : store.0.load ≡ false = store.2 in
    cc

-- a store is an event
pub store_event : (t : TraceValue) (n : ℕ) → IsStore t n → IsEvent t n
store_event t n store = (store.0, store.1)

-- a load is an event
pub load_event : (t : TraceValue) (n : ℕ) → IsLoad t n → IsEvent t n
load_event t n load = (load.0, load.1)

-- the numbers of events, of loads and of stores lie within the numbers of events
pub IsEvent-within : (t : TraceValue) (n : ℕ) → IsEvent t n → n < suc (event_total t)
IsEvent-within t n event = let within = event_at-within t n event.0 event.1 in omega arith

pub IsLoad-within : (t : TraceValue) (n : ℕ) → IsLoad t n → n < suc (event_total t)
IsLoad-within t n load = IsEvent-within t n (load_event t n load)

pub IsStore-within : (t : TraceValue) (n : ℕ) → IsStore t n → n < suc (event_total t)
IsStore-within t n store = IsEvent-within t n (store_event t n store)

-- the numbers of a load and of its source lie within the numbers of events
pub HasSource-within : (t : TraceValue) (l s : ℕ) → HasSource t l s → (l < suc (event_total t)) × (s < suc (event_total t))
HasSource-within t l zero source = (IsLoad-within t l source.0, omega arith)
HasSource-within t l (suc k) source = (IsLoad-within t l source.0, IsStore-within t (suc k) source.1)

-- a store to the load's address of the load's value is its source
pub store_source : (t : TraceValue) (l s : ℕ) → IsLoad t l → IsStore t s → SameAddress t s l → SameValue t s l → HasSource t l s
store_source t l zero load store address value = let above = event_above_zero t 0 (store_event t 0 store) in absurd (omega arith)
store_source t l (suc k) load store address value = (load, store, address, value)

-- the stores of one load's value have one value
pub same_value_of_both : (t : TraceValue) (l m n : ℕ) → SameValue t m l → SameValue t n l → SameValue t m n
same_value_of_both t l m n first second =
    let same = event_unique t l first.1 second.1 first.3 second.3 in
    let first_value : first.0.value ≡ first.1.value = first.4 in
    let second_value : second.0.value ≡ second.1.value = second.4 in
    (first.0, second.0, first.2, second.2, cc)

-- a load that read the first value of its address has no store for a source
pub first_not_from_store : (t : TraceValue) → HasOwnValues t → (l k : ℕ) → HasSource t l 0 → HasSource t l (suc k) → ⊥
first_not_from_store t own l k from_init from_store =
    let value = from_init.1 in
    let same = from_store.3 in
    let one = event_unique t l value.0 same.1 value.1 same.3 in
    let is_first : value.0.value ≡ first_value t.setting.first value.0.a = value.2 in
    let written : same.0.value ≡ same.1.value = same.4 in
    own.not_first (suc k) value.0.a same.0.value from_store.1 (same.0, same.2, refl) cc

-- a load has one source
pub source_unique : (t : TraceValue) → HasOwnValues t → (l r s : ℕ) → HasSource t l r → HasSource t l s → r ≡ s
source_unique t own l zero zero left right = refl
source_unique t own l zero (suc k) left right = absurd (first_not_from_store t own l k left right)
source_unique t own l (suc j) zero left right = absurd (first_not_from_store t own l j right left)
source_unique t own l (suc j) (suc k) left right =
    own.distinct (suc j) (suc k) left.1 right.1 (same_value_of_both t l (suc j) (suc k) left.3 right.3)

-- a load that init is the source of isn't unwritten
pub not_from_init : (t : TraceValue) (l : ℕ) (source : Source) → source ≡ Init → SourceIs t l source → IsUnwritten t l → ⊥
not_from_init t l source is from unwritten = unwritten.1 0 (subst (SourceIs t l) is from)

-- What the events of a chain have in common, and how chains are found by it.
use Rattle.std.specs.Prelude.{◌≡◌, ◌⊎◌, ◌↔◌, ℕ, ◌<◌, ◌≤◌, true, false, List, length, get_or, Option, None, Some, if◌then◌else◌}
use Rattle.std.specs.Ordering.{nat_cmp, ordering_then}
use Rattle.std.specs.Option.{option_cmp}
use Rattle.std.specs.declared.cmp.Ordering.{Ordering}
use Rattle.std.specs.BTreeMap.{BTreeMap, Updates, get}
use Rattle.tso_ops.specs.declared.settings.Order.{Order}
use Rattle.tso_ops.specs.declared.settings.Order.TheVariants.{Tso, Pso}
use Rattle.tso_ops.specs.declared.events.Event.{Event}
use Rattle.chain_reach.specs.declared.types.Groups.{Groups}
use Rattle.chain_reach.specs.Groups.{node_count, count_of, group_of, IsIn}
use Rattle.program_chains.specs.declared.events.LogEvent.{LogEvent}
use Rattle.program_chains.specs.LogEvents.{as_trace_event}

-- what tells the chains of a processor's stores apart
abbrev pub store_key : Order → ℕ → ℕ
store_key Tso a = 0
store_key Pso a = a

-- what the events of the chain of an event have in common
abbrev pub chain_key : Order → Event → ℕ × Option ℕ
chain_key order e = (e.proc, if e.load then None else Some (store_key order e.a))

-- how keys compare
abbrev pub key_cmp : ℕ × Option ℕ → ℕ × Option ℕ → Ordering
key_cmp x y = ordering_then (nat_cmp x.0 y.0) (option_cmp nat_cmp x.1 y.1)

-- an event of no log
abbrev pub no_event : LogEvent
no_event = record { processor = 0; load = true; swap = false; address = 0; value = 0; barriers = 0; stbars = 0 }

-- the event of this place, counted from 0
abbrev pub event_in : List LogEvent → ℕ → Event
event_in events x = as_trace_event (get_or events x no_event)

-- its key
abbrev pub key_in : Order → List LogEvent → ℕ → ℕ × Option ℕ
key_in order events x = chain_key order (event_in events x)

-- The groups are those of the events with one key, and each has an event.
pub record AreKeyed (order : Order) (events : List LogEvent) (g : Groups) : Type 0 where
  pub nodes : node_count g ≡ length events
  pub same : (x y : ℕ) → x < length events → y < length events → (group_of g x ≡ group_of g y) ↔ (key_in order events x ≡ key_in order events y)
  pub used : (d : ℕ) → d < count_of g → (x : ℕ) × IsIn g d x

-- a key had this chain, or it was new and has it now
abbrev pub FindsChain : BTreeMap (ℕ × Option ℕ) ℕ → BTreeMap (ℕ × Option ℕ) ℕ → ℕ × Option ℕ → ℕ → ℕ → Type 0
FindsChain old new key next chain =
    ((get key_cmp old key ≡ Some chain) × (new ≡ old))
    ⊎ ((get key_cmp old key ≡ None) × (chain ≡ next) × Updates key_cmp old new key (Some next))

-- The events below n have these chains, which are those below the count, and the map has the chains of their keys.
pub record HaveChains (order : Order) (events : List LogEvent) (n : ℕ) (keys : List ℕ) (chains : BTreeMap (ℕ × Option ℕ) ℕ) (count : ℕ) : Type 0 where
  pub sized : length keys ≡ n
  pub found : (x : ℕ) → x < n → get key_cmp chains (key_in order events x) ≡ Some (get_or keys x 0)
  pub from : (q : ℕ × Option ℕ) (d : ℕ) → get key_cmp chains q ≡ Some d → (x : ℕ) × (x < n) × (key_in order events x ≡ q) × (get_or keys x 0 ≡ d)
  pub apart : (x y : ℕ) → x < n → y < n → get_or keys x 0 ≡ get_or keys y 0 → key_in order events x ≡ key_in order events y
  pub below : (x : ℕ) → x < n → get_or keys x 0 < count
  pub used : (d : ℕ) → d < count → (x : ℕ) × (x < n) × (get_or keys x 0 ≡ d)
  pub few : count ≤ n

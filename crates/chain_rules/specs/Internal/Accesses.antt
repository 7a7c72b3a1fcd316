-- How loads, stores and the stores of swaps are put into groups.
use Rattle.std.specs.Prelude.{◌≡◌, ◌⊎◌, ◌↔◌, ℕ, suc, ◌+◌, ◌*◌, ◌<◌, Bool, List, length, Some, slice_index}
use Rattle.tso_ops.specs.Values.{TraceValue}
use Rattle.tso_ops.specs.declared.events.Event.{Event}
use Rattle.tso_ops.specs.Events.{processor_count, event_total, event_at, IsSwapLoad, IsEventOf}
use Rattle.chain_reach.specs.declared.types.Groups.{Groups}
use Rattle.chain_reach.specs.Groups.{count_of, group_of, IsIn}

-- event n is a load of address a, or a store to it
abbrev pub IsAccess : TraceValue → Bool → ℕ → ℕ → Type 0
IsAccess t loads a n = (e : Event) × (event_at t n ≡ Some e) × (e.load ≡ loads) × (e.a ≡ a)

-- event n is a load, or a store, and its place by processor and address is s
abbrev pub HasSlot : TraceValue → ℕ → Bool → ℕ → ℕ → Type 0
HasSlot t addresses loads n s = (e : Event) × (event_at t n ≡ Some e) × (e.load ≡ loads) × (s ≡ e.proc * addresses + e.a)

-- The groups are those of the loads, or of the stores, by processor and address, and more.
pub record AreAccesses (t : TraceValue) (addresses : ℕ) (loads : Bool) (g : Groups) : Type 0 where
  pub slots : processor_count t * addresses < count_of g
  pub is : (p a n : ℕ) → p < processor_count t → a < addresses → IsIn g (p * addresses + a) n ↔ (IsAccess t loads a n × IsEventOf t p n)

-- number n is the store of a swap, in chain d
abbrev pub HasSwapChain : TraceValue → Groups → ℕ → ℕ → Type 0
HasSwapChain t chains n d = (l : ℕ) × (n ≡ suc l) × IsSwapLoad t l × (group_of chains n ≡ d)

-- The groups are those of the stores of swaps by chain, and more.
pub record AreSwapStores (t : TraceValue) (chains g : Groups) : Type 0 where
  pub slots : count_of chains < count_of g
  pub is : (d n : ℕ) → d < count_of chains → IsIn g d n ↔ ((n < suc (event_total t)) × HasSwapChain t chains n d)

-- The keys of the numbers below n are what they have, and the greatest key of those that have none.
pub record AreKeys (keys : List ℕ) (Has : ℕ → ℕ → Type 0) (others n : ℕ) : Type 0 where
  pub sized : length keys ≡ n
  pub within : (k : ℕ) → k < n → slice_index keys k < others + 1
  pub each : (k : ℕ) → k < n → Has k (slice_index keys k) ⊎ ((slice_index keys k ≡ others) × ((s : ℕ) → Has k s → ⊥))

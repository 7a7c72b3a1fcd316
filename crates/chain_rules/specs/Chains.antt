-- The events of a trace in chains: what memory keeps in order without a load's source, in program order.
use Rattle.std.specs.Prelude.{◌≡◌, ℕ, zero, suc, ◌+◌, ◌*◌, ◌<◌, ◌^◌, max, Option, None, Some}
use Rattle.tso_ops.specs.Values.{TraceValue}
use Rattle.tso_ops.specs.declared.settings.Order.{Order}
use Rattle.tso_ops.specs.declared.settings.Order.TheVariants.{Tso, Pso}
use Rattle.tso_ops.specs.declared.events.Event.{Event}
use Rattle.tso_ops.specs.Events.{processor_count, event_total, event_at, IsLoad, IsStore, IsEventOf, SameAddress}
use Rattle.tso_model.specs.Ranks.{RankSet}
use Rattle.chain_reach.specs.declared.types.Groups.{Groups}
use Rattle.chain_reach.specs.Groups.{node_count, count_of, group_of, IsLaterIn}

-- one more than the event's address; 1 where there is no event
abbrev pub address_bound : Option Event → ℕ
address_bound None = 1
address_bound (Some e) = e.a + 1

-- one more than the greatest address of the events with numbers below n; 1 where there is none
unfoldable pub addresses_below : TraceValue → ℕ → ℕ
addresses_below t zero = 1
addresses_below t (suc n) = max (addresses_below t n) (address_bound (event_at t n))

-- one more than the greatest address of an event; 1 where there is none
abbrev pub address_total : TraceValue → ℕ
address_total t = addresses_below t (suc (event_total t))

-- How many chains of stores each processor has: one under TSO, which keeps the order of them all; under PSO, which keeps that of stores to one
-- address, one for each address up to the greatest.
abbrev pub chain_width : Order → ℕ → ℕ
chain_width Tso addresses = 1
chain_width Pso addresses = addresses

-- how many chains a trace has: one of `init` alone, and of each processor one of loads and those of stores
abbrev pub chain_total : TraceValue → ℕ
chain_total t = 1 + processor_count t * (1 + chain_width t.setting.order (address_total t))

-- two numbers of one group
abbrev pub AreTogether : Groups → ℕ → ℕ → Type 0
AreTogether g x y = (x < node_count g) × (y < node_count g) × (group_of g x ≡ group_of g y)

-- The groups are chains of the trace: `init` and the events are their numbers, each has a base edge to each after it in its group, and a group
-- has events of one processor and kind. The loads of a processor are one chain, and so are its stores to one address, maybe with others.
-- There are fewer than 2^16 chains.
pub record AreChainsOf (t : TraceValue) (g : Groups) : Type 0 where
  pub nodes : node_count g ≡ suc (event_total t)
  pub few : count_of g < 2 ^ 16
  pub ordered : (x y : ℕ) → IsLaterIn g x y → RankSet t 0 x y
  pub processors : (p x y : ℕ) → AreTogether g x y → IsEventOf t p x → IsEventOf t p y
  pub kinds : (x y : ℕ) → AreTogether g x y → IsStore t x → IsStore t y
  pub loads : (p x y : ℕ) → IsLoad t x → IsLoad t y → IsEventOf t p x → IsEventOf t p y → group_of g x ≡ group_of g y
  pub stores : (p x y : ℕ) → IsStore t x → IsStore t y → SameAddress t x y → IsEventOf t p x → IsEventOf t p y → group_of g x ≡ group_of g y

-- Which chain an event lies in.
use Rattle.std.specs.Prelude.{◌≡◌, ℕ, ◌+◌, ◌*◌, ◌<◌, ◌≤◌, Bool, true, false, cond, List, length, Option, None, Some, slice_index}
use Rattle.tso_ops.specs.Values.{TraceValue}
use Rattle.tso_ops.specs.declared.settings.Order.{Order}
use Rattle.tso_ops.specs.declared.settings.Order.TheVariants.{Tso, Pso}
use Rattle.tso_ops.specs.declared.events.Event.{Event}
use Rattle.tso_ops.specs.Events.{processor_count, event_at}
use Rattle.chain_rules.specs.declared.chains.Layout.{Layout}
use Rattle.chain_rules.specs.Chains.{chain_width, address_total}

-- PSO keeps the order of stores to one address alone
abbrev pub is_by_address : Order → Bool
is_by_address Tso = false
is_by_address Pso = true

-- the layout of a trace
abbrev pub layout_of : TraceValue → Layout
layout_of t = record { processors = processor_count t; width = chain_width t.setting.order (address_total t); by_address = is_by_address t.setting.order }

-- how many chains a layout has
abbrev pub layout_count : Layout → ℕ
layout_count l = 1 + l.processors * (1 + l.width)

-- which of the chains of stores of its processor a store lies in
abbrev pub place_in : Layout → Event → ℕ
place_in l e = cond l.by_address e.a 0

-- the chain of an event
abbrev pub chain_in : Layout → Event → ℕ
chain_in l e = cond e.load (1 + e.proc) (1 + l.processors + e.proc * l.width + place_in l e)

-- the chain of what a number stands for
abbrev pub chain_at : Layout → Option Event → ℕ
chain_at l None = 0
chain_at l (Some e) = chain_in l e

-- The layout is one of few chains.
pub record IsSmall (l : Layout) : Type 0 where
  pub processors : l.processors ≤ 16
  pub width : l.width ≤ 256

-- The event has a chain in the layout.
pub record IsPlaced (l : Layout) (e : Event) : Type 0 where
  pub processor : e.proc < l.processors
  pub place : place_in l e < l.width

-- The keys are the chains of the numbers below n.
pub record AreChainKeys (t : TraceValue) (keys : List ℕ) (n : ℕ) : Type 0 where
  pub sized : length keys ≡ n
  pub each : (k : ℕ) → k < n → slice_index keys k ≡ chain_at (layout_of t) (event_at t k)
  pub within : (k : ℕ) → k < n → slice_index keys k < layout_count (layout_of t)

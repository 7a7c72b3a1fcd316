-- Which of a log's events come before which by program order alone, counted from 0.
use Rattle.std.specs.Prelude.{◌≡◌, ◌⊎◌, ℕ, ◌<◌, IsTrue, IsFalse, List, length}
use Rattle.tso_ops.specs.declared.settings.Order.{Order}
use Rattle.tso_ops.specs.declared.settings.Order.TheVariants.{Tso}
use Rattle.tso_ops.specs.declared.events.Event.{Event}
use Rattle.chain_reach.specs.declared.types.Groups.{Groups}
use Rattle.chain_reach.specs.Groups.{node_count, IsLaterIn}
use Rattle.program_chains.specs.declared.events.LogEvent.{LogEvent}
use Rattle.program_chains.specs.Internal.Keys.{event_in}

-- the memory model keeps the order of two stores with no STBAR between them
abbrev pub Keeps : Order → Event → Event → Type 0
Keeps order d e = (order ≡ Tso) ⊎ (d.a ≡ e.a)

-- the one event comes before the other, if it is the earlier one
abbrev pub ArePaired : Order → Event → Event → Type 0
ArePaired order d e = (d.proc ≡ e.proc) × (IsTrue d.load ⊎ ((IsFalse d.load × IsTrue e.load × (d.bars < e.bars))
    ⊎ (IsFalse d.load × IsFalse e.load × (Keeps order d e ⊎ (d.stbars < e.stbars)))))

-- event u comes before event v
abbrev pub IsPair : Order → List LogEvent → ℕ → ℕ → Type 0
IsPair order events u v = (u < v) × (v < length events) × ArePaired order (event_in events u) (event_in events v)

-- The groups are chains: each event comes before those after it in its chain, and before whatever those come before.
pub record ArePairChains (order : Order) (events : List LogEvent) (g : Groups) : Type 0 where
  pub nodes : node_count g ≡ length events
  pub ordered : (x y : ℕ) → IsLaterIn g x y → IsPair order events x y
  pub first : (x y v : ℕ) → IsLaterIn g x y → IsPair order events y v → IsPair order events x v

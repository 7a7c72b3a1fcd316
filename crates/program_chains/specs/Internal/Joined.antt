-- How pairs are joined.
use Rattle.std.specs.Prelude.{◌≡◌, ℕ, List}
use Rattle.order_paths.specs.Paths.{Reaches}
use Rattle.tso_ops.specs.declared.settings.Order.{Order}
use Rattle.chain_reach.specs.declared.types.Reach.{Reach}
use Rattle.chain_reach.specs.Leading.{Leads}
use Rattle.program_chains.specs.declared.events.LogEvent.{LogEvent}
use Rattle.program_chains.specs.Internal.Pairs.{IsPair}

-- Pairs were joined: what led before leads, and where paths of pairs led alone, they do still.
pub record GrowsByPairs (order : Order) (events : List LogEvent) (old new : Reach) : Type 0 where
  pub chains : new.chains ≡ old.chains
  pub kept : (x y : ℕ) → Leads old x y → Leads new x y
  pub paths : ((x y : ℕ) → Leads old x y → Reaches (IsPair order events) x y) → (x y : ℕ) → Leads new x y → Reaches (IsPair order events) x y

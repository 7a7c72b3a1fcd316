-- What is known of a list once some of its events are passed.
use Rattle.std.specs.Prelude.{◌≡◌, ℕ, suc, ◌<◌, List}
use Rattle.tso_ops.specs.Values.{TraceValue}
use Rattle.tso_ops.specs.Events.{IsStoreTo, IsSwapLoad}
use Rattle.tso_model.specs.Axioms.{place}
use Rattle.log_order_check.specs.declared.progress.Progress.{Progress}
use Rattle.log_order_check.specs.Internal.Most.{IsMost}
use Rattle.log_order_check.specs.Internal.Tables.{looked_up}

-- s is a store to address a among the first k events
abbrev pub IsPassedStore : TraceValue → List ℕ → ℕ → ℕ → ℕ → Type 0
IsPassedStore t order k a s = IsStoreTo t a s × (place order s < k)

-- s is the store of a swap whose load is among the first k events
abbrev pub IsAwaited : TraceValue → List ℕ → ℕ → ℕ → Type 0
IsAwaited t order k s = (l : ℕ) × (s ≡ suc l) × IsSwapLoad t l × (place order l < k)

-- The first k events of the list are passed.
pub record HasPassed (t : TraceValue) (order places : List ℕ) (k : ℕ) (progress : Progress) : Type 0 where
  pub last : (a : ℕ) → IsMost (IsPassedStore t order k a) places (looked_up progress.last a)
  pub awaited : IsMost (IsAwaited t order k) places progress.awaited

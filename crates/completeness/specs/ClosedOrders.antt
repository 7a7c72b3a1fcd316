-- Closed orders of a trace's events: strict partial orders that have each edge which the rules give over them, and that are total on the
-- stores of each address, and on each swap's store and all other stores.
use Rattle.std.specs.Prelude.{◌≢◌, ◌⊎◌, ℕ, suc, List}
use Rattle.tso_ops.specs.Values.{TraceValue}
use Rattle.tso_ops.specs.Events.{IsStore, IsSwapLoad, SameAddress}
use Rattle.tso_cert.specs.declared.rules.BaseRule.{BaseRule}
use Rattle.tso_cert.specs.declared.rules.InferredRule.{InferredRule}
use Rattle.tso_model.specs.Axioms.{IsBefore}
use Rattle.tso_model.specs.Rules.{BasePair, InferredBy}

-- The relation is a closed order of the trace. Its numbers are those of events, and 0, which stands for `init`.
pub record IsClosedOrder (t : TraceValue) (Before : ℕ → ℕ → Type 0) : Type 0 where
  -- a strict partial order
  pub transitive : (u v w : ℕ) → Before u v → Before v w → Before u w
  pub irreflexive : (u : ℕ) → Before u u → ⊥
  -- it has each base edge: `init` first, program order as far as the model keeps it, and what sources of loads say
  pub base : (rule : BaseRule) (u v : ℕ) → BasePair t rule u v → Before u v
  -- and each edge that an inferred rule gives, where "there is a path from x to y" is read as "the relation has the pair of x and y"
  pub inferred : (rule : InferredRule) (l u v x y : ℕ) → InferredBy t rule l u v x y → Before x y → Before u v
  -- coherence: of two stores to one address one is before the other
  pub stores : (u v : ℕ) → IsStore t u → IsStore t v → SameAddress t u v → u ≢ v → Before u v ⊎ Before v u
  -- atomicity: of a swap's store and another store, to any address, one is before the other
  pub swaps : (l s : ℕ) → IsSwapLoad t l → IsStore t s → s ≢ suc l → Before s (suc l) ⊎ Before (suc l) s

-- The order is a linear extension of the relation: it has each pair of it, with `init`, number 0, in front of all events.
abbrev pub Respects : List ℕ → (ℕ → ℕ → Type 0) → Type 0
Respects order Before = (u v : ℕ) → Before u v → IsBefore order u v

-- What is looked at in a row, so that all rows together are a strict order.
use Rattle.std.specs.Prelude.{◌≡◌, ◌⊎◌, ℕ, List}
use Rattle.acyclic_traces.specs.Internal.Pairs.{HasPair}

-- Number x has a pair with v or is v, number u one with x, and u has all pairs of x.
pub record IsCovered (rows : List ℕ) (u v : ℕ) : Type 0 where
  pub by : ℕ
  pub pair : HasPair rows u by
  pub reaches : (by ≡ v) ⊎ HasPair rows by v
  pub within : (w : ℕ) → HasPair rows by w → HasPair rows u w

-- Number u has no pair with itself, and each of its pairs is covered.
pub record IsCoveredRow (rows : List ℕ) (u : ℕ) : Type 0 where
  pub irreflexive : HasPair rows u u → ⊥
  pub covered : (v : ℕ) → HasPair rows u v → IsCovered rows u v

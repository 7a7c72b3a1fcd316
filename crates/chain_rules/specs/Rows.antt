-- Rows of new edges by chains, and which numbers lead to which by the edges of a rank set.
use Rattle.std.specs.Prelude.{◌≡◌, ◌⊎◌, ◌↔◌, ℕ, List, Contains}
use Rattle.tso_ops.specs.Values.{TraceValue}
use Rattle.tso_cert.specs.declared.rules.InferredRule.{InferredRule}
use Rattle.order_paths.specs.Paths.{Reaches}
use Rattle.tso_model.specs.NewEdges.{IsGivenBy}
use Rattle.tso_model.specs.Ranks.{RankSet}
use Rattle.chain_reach.specs.declared.types.Reach.{Reach}
use Rattle.chain_reach.specs.Groups.{IsLaterIn}
use Rattle.chain_reach.specs.Leading.{Leads}
use Rattle.chain_rules.specs.Chains.{AreChainsOf}

-- Numbers lead to each other just by the paths of rank set k.
pub record IsRankReach (t : TraceValue) (k : ℕ) (r : Reach) : Type 0 where
  pub chains : AreChainsOf t r.chains
  pub leads : (x y : ℕ) → Leads r x y ↔ Reaches (RankSet t k) x y

-- an inferred rule gives the edge from u to v, where what leads on is a path, and u doesn't lead to v
abbrev pub IsNewBy : TraceValue → Reach → ℕ → ℕ → Type 0
IsNewBy t r u v = ((rule : InferredRule) × (l : ℕ) × IsGivenBy t rule l (Leads r) u v) × (Leads r u v → ⊥)

-- The row has such numbers alone, and of each chain that has any the first: the others come after it.
pub record IsLeastRow (t : TraceValue) (r : Reach) (u : ℕ) (row : List ℕ) : Type 0 where
  pub only : (v : ℕ) → Contains row v → IsNewBy t r u v
  pub all : (v : ℕ) → IsNewBy t r u v → (w : ℕ) × Contains row w × ((w ≡ v) ⊎ IsLaterIn r.chains w v)

-- Least numbers by chain that rules lower, and rows of what is left of them.
use Rattle.std.specs.Prelude.{◌≡◌, ◌≢◌, ◌⊎◌, ℕ, ◌<◌, ◌≤◌, min, List, Contains, length, slice_index}
use Rattle.tso_ops.specs.Values.{TraceValue}
use Rattle.tso_ops.specs.Limits.{IsTrace}
use Rattle.tso_cert.specs.declared.rules.InferredRule.{InferredRule}
use Rattle.tso_model.specs.NewEdges.{IsGivenBy}
use Rattle.chain_reach.specs.declared.types.Groups.{Groups}
use Rattle.chain_reach.specs.declared.types.Reach.{Reach}
use Rattle.chain_reach.specs.Groups.{node_count, group_of}
use Rattle.chain_reach.specs.Leading.{Leads}
use Rattle.chain_rules.specs.declared.types.RuleTables.{RuleTables}
use Rattle.chain_rules.specs.Chains.{AreChainsOf}
use Rattle.chain_rules.specs.Rows.{IsNewBy}
use Rattle.chain_rules.specs.Internal.Tables.{HasTables}

-- The numbers of the chains were lowered: to each number that must be, and to no number but those that may be. What is no number of the chains
-- stands for none.
pub record Lowers (chains : Groups) (old new : List ℕ) (Must May : ℕ → Type 0) : Type 0 where
  pub sized : length new ≡ length old
  pub kept : (d : ℕ) → slice_index new d ≤ slice_index old d
  pub must : (v : ℕ) → Must v → slice_index new (group_of chains v) ≤ v
  pub may : (d : ℕ) → d < length old → slice_index new d < node_count chains →
      (slice_index new d ≡ slice_index old d) ⊎ ((group_of chains (slice_index new d) ≡ d) × May (slice_index new d))

-- The number of a chain was lowered to n, where that is less; the others are as they were.
pub record LowersAt (old new : List ℕ) (chain n : ℕ) : Type 0 where
  pub sized : length new ≡ length old
  pub at : slice_index new chain ≡ min (slice_index old chain) n
  pub others : (d : ℕ) → d ≢ chain → slice_index new d ≡ slice_index old d

-- What the rules look at: the chains and the tables are those of a trace, and no number leads to itself.
pub record AreReady (t : TraceValue) (lists : RuleTables) (r : Reach) : Type 0 where
  pub trace : IsTrace t
  pub chains : AreChainsOf t r.chains
  pub tables : HasTables t r.chains lists
  pub acyclic : (x : ℕ) → Leads r x x → ⊥

-- the rule gives the edge from u to v for a load with this, where what leads on is a path, and u doesn't lead to v
abbrev pub IsNewOf : TraceValue → Reach → InferredRule → (ℕ → ℕ → Type 0) → ℕ → ℕ → Type 0
IsNewOf t r rule Of u v = ((l : ℕ) × Of l v × IsGivenBy t rule l (Leads r) u v) × (Leads r u v → ⊥)

-- a rule gives the edge from u to v, or v is u
abbrev pub IsGivenOrSame : TraceValue → Reach → ℕ → ℕ → Type 0
IsGivenOrSame t r u v = ((rule : InferredRule) × (l : ℕ) × IsGivenBy t rule l (Leads r) u v) ⊎ (v ≡ u)

-- the numbers were lowered to what the rule gives from u for a load with this
abbrev pub LowersFor : TraceValue → Reach → InferredRule → (ℕ → ℕ → Type 0) → ℕ → List ℕ → List ℕ → Type 0
LowersFor t r rule Of u old new = Lowers r.chains old new (IsNewOf t r rule Of u) (IsGivenOrSame t r u)

-- the numbers were lowered to what the rules give from u
abbrev pub LowersToNew : TraceValue → Reach → ℕ → List ℕ → List ℕ → Type 0
LowersToNew t r u old new = Lowers r.chains old new (IsNewBy t r u) (IsGivenOrSame t r u)

-- v is a number of the chains, not u, and u doesn't lead to it
abbrev pub IsUnled : Reach → ℕ → ℕ → Type 0
IsUnled r u v = (v ≢ u) × (v < node_count r.chains) × (Leads r u v → ⊥)

-- v is one of the least numbers of the chains below d, not u, and u doesn't lead to it
abbrev pub IsLeft : Reach → ℕ → List ℕ → ℕ → ℕ → Type 0
IsLeft r u least d v = (k : ℕ) × (k < d) × (slice_index least k ≡ v) × IsUnled r u v

-- The row has what is left of the numbers of the chains below d.
pub record AreLeft (r : Reach) (u : ℕ) (least : List ℕ) (d : ℕ) (row : List ℕ) : Type 0 where
  pub only : (v : ℕ) → Contains row v → IsLeft r u least d v
  pub all : (v : ℕ) → IsLeft r u least d v → Contains row v

-- How base edges are joined chain by chain.
use Rattle.std.specs.Prelude.{◌≡◌, ◌⊎◌, ℕ, ◌<◌, ◌≤◌, List, length, slice_index}
use Rattle.tso_ops.specs.Values.{TraceValue}
use Rattle.tso_cert.specs.declared.rules.BaseRule.TheVariants.{Init}
use Rattle.order_paths.specs.Paths.{Reaches}
use Rattle.tso_model.specs.Rules.{BasePair}
use Rattle.tso_model.specs.Ranks.{RankSet}
use Rattle.tso_rules.specs.Rows.{IsLater}
use Rattle.chain_reach.specs.declared.types.Groups.{Groups}
use Rattle.chain_reach.specs.declared.types.Reach.{Reach}
use Rattle.chain_reach.specs.Groups.{IsIn}
use Rattle.chain_reach.specs.Leading.{Leads}

-- the rule Init or program order gives the edge from u to v
abbrev pub IsAfter : TraceValue → ℕ → ℕ → Type 0
IsAfter t u v = BasePair t Init u v ⊎ IsLater t u v

-- v is the first number of chain d with such an edge from u
pub record IsFirstAfter (t : TraceValue) (g : Groups) (d u v : ℕ) : Type 0 where
  pub inside : IsIn g d v
  pub after : IsAfter t u v
  pub least : (w : ℕ) → IsIn g d w → IsAfter t u w → v ≤ w

-- v is the first item of the list that program order puts after u
pub record IsFirstLater (t : TraceValue) (list : List ℕ) (u v : ℕ) : Type 0 where
  pub place : ℕ
  pub low : place < length list
  pub item : slice_index list place ≡ v
  pub later : IsLater t u v
  pub none : (k : ℕ) → k < place → IsLater t u (slice_index list k) → ⊥

-- Base edges were joined: what led before leads, and where paths of base edges led alone, they do still.
pub record GrowsByBase (t : TraceValue) (old new : Reach) : Type 0 where
  pub chains : new.chains ≡ old.chains
  pub kept : (x y : ℕ) → Leads old x y → Leads new x y
  pub paths : ((x y : ℕ) → Leads old x y → Reaches (RankSet t 0) x y) → (x y : ℕ) → Leads new x y → Reaches (RankSet t 0) x y

-- What joining a row does.
use Rattle.std.specs.Prelude.{◌≡◌, ◌⊎◌, ℕ, List, Contains}
use Rattle.tso_ops.specs.Values.{TraceValue}
use Rattle.order_paths.specs.Paths.{Reaches}
use Rattle.tso_model.specs.Ranks.{RankSet}
use Rattle.chain_reach.specs.declared.types.Reach.{Reach}
use Rattle.chain_reach.specs.Leading.{Leads, IsOrLeads, LeadsToMore}

-- u leads to the numbers of the row, and nothing leads to more but by way of these: so all is by the paths of a rank set that has these edges, if
-- it was before.
pub record JoinsRow (old new : Reach) (u : ℕ) (row : List ℕ) : Type 0 where
  pub chains : new.chains ≡ old.chains
  pub kept : (x y : ℕ) → Leads old x y → Leads new x y
  pub joined : (v : ℕ) → Contains row v → Leads new u v
  pub passes : (x y : ℕ) → Leads new x y → Leads old x y ⊎ ((v : ℕ) × Contains row v × IsOrLeads new x u × IsOrLeads new v y)
  pub grown : (x y : ℕ) → Leads new x y → (Leads old x y → ⊥) → LeadsToMore new x
  pub still_grown : (x : ℕ) → LeadsToMore old x → LeadsToMore new x
  pub sound : (t : TraceValue) (k : ℕ) → ((v : ℕ) → Contains row v → RankSet t k u v) → ((x y : ℕ) → Leads old x y → Reaches (RankSet t k) x y) →
      (x y : ℕ) → Leads new x y → Reaches (RankSet t k) x y

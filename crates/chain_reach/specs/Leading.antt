-- Which numbers lead to which.
use Rattle.std.specs.Prelude.{◌≡◌, ◌⊎◌, ℕ}
use Rattle.bitsets.specs.Rows.{HasNumber}
use Rattle.chain_reach.specs.declared.types.Reach.{Reach}
use Rattle.chain_reach.specs.Groups.{count_of}
use Rattle.chain_reach.specs.Internal.FirstTables.{LeadsBy}

-- x leads to y
unfoldable pub Leads : Reach → ℕ → ℕ → Type 0
Leads r x y = LeadsBy r.chains.keys.items (count_of r.chains) r.first.items x y

-- x is the number y, or leads to it
abbrev pub IsOrLeads : Reach → ℕ → ℕ → Type 0
IsOrLeads r x y = (x ≡ y) ⊎ Leads r x y

-- x has come to lead to more numbers since this was made or last settled
unfoldable pub LeadsToMore : Reach → ℕ → Type 0
LeadsToMore r x = HasNumber r.grown.items x

-- Which numbers lead to which, once u leads to v: besides those that did, each that is or leads to u leads to v and to what v leads to.
pub record Joins (old new : Reach) (u v : ℕ) : Type 0 where
  pub chains : new.chains ≡ old.chains
  pub leads : (x y : ℕ) → Leads new x y → Leads old x y ⊎ (IsOrLeads old x u × IsOrLeads old v y)
  pub kept : (x y : ℕ) → Leads old x y → Leads new x y
  pub joined : (x y : ℕ) → IsOrLeads old x u → IsOrLeads old v y → Leads new x y
  pub grown : (x : ℕ) → LeadsToMore new x → LeadsToMore old x ⊎ (IsOrLeads old x u × (Leads old x v → ⊥))
  pub still_grown : (x : ℕ) → LeadsToMore old x → LeadsToMore new x
  pub grows : (x : ℕ) → IsOrLeads old x u → (Leads old x v → ⊥) → LeadsToMore new x

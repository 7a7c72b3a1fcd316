-- What the tables of a trace keep.
use Rattle.std.specs.Prelude.{◌≡◌, ◌↔◌, ℕ, suc, ◌+◌, ◌*◌, ◌<◌, ◌≤◌, length, slice_index}
use Rattle.tso_ops.specs.Values.{TraceValue}
use Rattle.tso_ops.specs.Events.{processor_count, event_total, IsLoad, IsLoadAt, IsStoreTo, IsSwapLoad, IsEventOf}
use Rattle.tso_rules.specs.SourceMasks.{IsSourceFrom}
use Rattle.chain_reach.specs.declared.types.Groups.{Groups}
use Rattle.chain_reach.specs.Groups.{count_of, group_of, IsIn}
use Rattle.chain_rules.specs.declared.types.RuleTables.{RuleTables}

-- where the tables have the loads, or the stores, of processor p and address a
abbrev pub slot_of : RuleTables → ℕ → ℕ → ℕ
slot_of tables p a = p * tables.addresses + a

-- what row l of the table of least sources has for chain d
abbrev pub least_source : RuleTables → Groups → ℕ → ℕ → ℕ
least_source tables chains l d = slice_index tables.least.items (l * count_of chains + d)

-- The tables keep what `AreTablesOf` says.
pub record HasTables (t : TraceValue) (chains : Groups) (tables : RuleTables) : Type 0 where
  pub addresses : (a n : ℕ) → IsLoadAt t a n → a < tables.addresses
  pub store_addresses : (a n : ℕ) → IsStoreTo t a n → a < tables.addresses
  pub load_slots : processor_count t * tables.addresses < count_of tables.loads
  pub store_slots : processor_count t * tables.addresses < count_of tables.stores
  pub loads : (p a n : ℕ) → p < processor_count t → a < tables.addresses → IsIn tables.loads (slot_of tables p a) n ↔ (IsLoadAt t a n × IsEventOf t p n)
  pub stores : (p a n : ℕ) → p < processor_count t → a < tables.addresses → IsIn tables.stores (slot_of tables p a) n ↔ (IsStoreTo t a n × IsEventOf t p n)
  pub swap_chains : count_of chains < count_of tables.swaps
  pub swaps : (d n : ℕ) → d < count_of chains → IsIn tables.swaps d (suc n) ↔ (IsSwapLoad t n × (group_of chains (suc n) ≡ d))
  pub no_swap : (d : ℕ) → d < count_of chains → IsIn tables.swaps d 0 → ⊥
  pub sized : length tables.least.items ≡ suc (event_total t) * count_of chains
  pub below : (l d v : ℕ) → IsLoad t l → d < count_of chains → IsSourceFrom t l v → group_of chains v ≡ d → least_source tables chains l d ≤ v
  pub least : (l d : ℕ) → IsLoad t l → d < count_of chains → least_source tables chains l d < suc (event_total t) →
      IsSourceFrom t l (least_source tables chains l d) × (group_of chains (least_source tables chains l d) ≡ d)

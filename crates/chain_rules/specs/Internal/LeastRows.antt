-- How the table of least sources is made, from the last load on.
use Rattle.std.specs.Prelude.{◌≡◌, ◌≢◌, ◌⊎◌, ℕ, suc, ◌+◌, ◌*◌, ◌<◌, ◌≤◌, min, List, length, slice_index}
use Rattle.tso_ops.specs.Values.{TraceValue}
use Rattle.tso_ops.specs.Events.{event_total, IsLoad, HasSource}
use Rattle.tso_rules.specs.SourceMasks.{IsSourceFrom}
use Rattle.chain_reach.specs.declared.types.Groups.{Groups}
use Rattle.chain_reach.specs.Groups.{count_of, group_of}

-- x is the least number of chain d that has this, or no number of the chains where none has.
pub record IsLeastOf (chains : Groups) (nodes : ℕ) (Has : ℕ → Type 0) (d x : ℕ) : Type 0 where
  pub below : (v : ℕ) → Has v → group_of chains v ≡ d → x ≤ v
  pub least : x < nodes → Has x × (group_of chains x ≡ d)

-- The rows of the loads from number n on are made, and the others have no number.
pub record AreLeastFrom (t : TraceValue) (chains : Groups) (table : List ℕ) (n : ℕ) : Type 0 where
  pub sized : length table ≡ suc (event_total t) * count_of chains
  pub made : (l d : ℕ) → n ≤ l → IsLoad t l → d < count_of chains →
      IsLeastOf chains (suc (event_total t)) (IsSourceFrom t l) d (slice_index table (l * count_of chains + d))
  pub empty : (l d : ℕ) → l < n → d < count_of chains → slice_index table (l * count_of chains + d) ≡ suc (event_total t)

-- No row but this one was changed.
pub record KeepsRows (old new : List ℕ) (count row : ℕ) : Type 0 where
  pub sized : length new ≡ length old
  pub others : (x d : ℕ) → d < count → x ≢ row → slice_index new (x * count + d) ≡ slice_index old (x * count + d)

-- one row has what another had
abbrev pub IsRowOf : List ℕ → List ℕ → ℕ → ℕ → ℕ → Type 0
IsRowOf old new count row from = (d : ℕ) → d < count → slice_index new (row * count + d) ≡ slice_index old (from * count + d)

-- load l has this source in chain d, and no other, and the number was lowered to it
abbrev pub IsLoweredBy : TraceValue → Groups → ℕ → ℕ → ℕ → ℕ → ℕ → Type 0
IsLoweredBy t chains l d old new s = HasSource t l s × (group_of chains s ≡ d) × ((v : ℕ) → HasSource t l v → v ≡ s) × (new ≡ min old s)

-- load l has no source in chain d, and the number is as it was
abbrev pub IsLeftBy : TraceValue → Groups → ℕ → ℕ → ℕ → ℕ → Type 0
IsLeftBy t chains l d old new = ((v : ℕ) → HasSource t l v → group_of chains v ≡ d → ⊥) × (new ≡ old)

-- the number of chain d was lowered to load l's source, where that lies in the chain
abbrev pub LowersBySource : TraceValue → Groups → ℕ → ℕ → ℕ → ℕ → Type 0
LowersBySource t chains l d old new = ((s : ℕ) × IsLoweredBy t chains l d old new s) ⊎ IsLeftBy t chains l d old new

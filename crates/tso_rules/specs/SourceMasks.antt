-- The sources of the loads of one address on one processor, from a load on.
use Rattle.std.specs.Prelude.{◌≡◌, ◌⊎◌, ◌↔◌, ℕ, suc, ◌+◌, ◌*◌, ◌/◌, ◌<◌, length}
use Rattle.tso_ops.specs.Values.{TraceValue}
use Rattle.tso_ops.specs.Events.{event_total, IsLoad, HasSource, SameAddress, Earlier}
use Rattle.bitsets.specs.Tables.{IsSet}
use Rattle.tso_rules.specs.declared.masks.SourceMasks.{SourceMasks}

-- v is the source of load l, or of a program-later load of its address
abbrev pub IsSourceFrom : TraceValue → ℕ → ℕ → Type 0
IsSourceFrom t l v = (m : ℕ) × SameAddress t l m × ((m ≡ l) ⊎ Earlier t l m) × HasSource t m v

-- The masks are those of the trace: row l of their table has, for each load l, the numbers with this.
pub record AreSourceMasks (t : TraceValue) (masks : SourceMasks) : Type 0 where
  pub fits : masks.width ≡ (event_total t + 64) / 64
  pub sized : length masks.words.items ≡ suc (event_total t) * masks.width
  pub bits : (l v : ℕ) → IsLoad t l → v / 64 < masks.width → IsSet masks.words.items masks.width l v ↔ IsSourceFrom t l v

-- The sources that the values of a log tell.
use Rattle.std.specs.Prelude.{◌≡◌, ◌≢◌, ◌↔◌, ℕ, List, length, nat_eq}
use Rattle.std.specs.List.{Contains, IsDistinct}
use Rattle.tso_ops.specs.Values.{TraceValue}
use Rattle.tso_ops.specs.Events.{HasSource}
use Rattle.log_text.specs.LogValues.{NumberedLog, log_operations}

-- Number s alone can have written what load l read: it is 0, and the load read the first value of its address, which no store writes there; or it is
-- the one store of the value to the address, whose first value is another.
abbrev pub IsOnlySource : TraceValue → ℕ → ℕ → Type 0
IsOnlySource t l s = HasSource t l s × ((other : ℕ) → HasSource t l other → other ≡ s)

-- Two numbers can have written what load l read: two stores of the value to its address, or one store and, as number 0, the first value.
abbrev pub HasTwoSources : TraceValue → ℕ → Type 0
HasTwoSources t l = (r : ℕ) × (s : ℕ) × (r ≢ s) × HasSource t l r × HasSource t l s

-- So many numbers have the property: each of them stands once in a list of this length.
abbrev pub IsCountOf : (ℕ → Type 0) → ℕ → Type 0
IsCountOf P count = (those : List ℕ) × IsDistinct nat_eq those × ((n : ℕ) → Contains those n ↔ P n) × (count ≡ length those)

-- so many loads of the log have two sources or more, those of swaps counted
abbrev pub IsAmbiguousCount : NumberedLog → ℕ → Type 0
IsAmbiguousCount log count = IsCountOf (HasTwoSources (log_operations log)) count

-- Which rows of new edges can change where some numbers reach more than before.
use Rattle.std.specs.Prelude.{◌≡◌, ◌⊎◌, ℕ, suc, List, Contains}
use Rattle.tso_ops.specs.Values.{TraceValue}
use Rattle.tso_ops.specs.Events.{IsEvent, IsSwapLoad, HasSource}

-- the rules ask for paths from x to give edges from u: x is u itself, the source of load u, or the load of the swap whose store is u
abbrev pub RestsOn : TraceValue → ℕ → ℕ → Type 0
RestsOn t x u = ((u ≡ x) × IsEvent t x) ⊎ HasSource t u x ⊎ (IsSwapLoad t x × (u ≡ suc x))

-- row u rests on a number of the list
abbrev pub IsAffected : TraceValue → List ℕ → ℕ → Type 0
IsAffected t grown u = (x : ℕ) × Contains grown x × RestsOn t x u

-- Which numbers are neighbours in a list, or on a cycle.
use Rattle.std.specs.Prelude.{◌≡◌, ◌⊎◌, ℕ, List, [], ◌∷◌}
use Rattle.order_paths.specs.Paths.{last_of}

-- u and v are neighbours in the list
abbrev pub AreNeighbours : List ℕ → ℕ → ℕ → Type 0
AreNeighbours [] u v = ⊥
AreNeighbours (x ∷ []) u v = ⊥
AreNeighbours (x ∷ (y ∷ rest)) u v = ((x ≡ u) × (y ≡ v)) ⊎ AreNeighbours (y ∷ rest) u v

-- u and v are neighbours in the cycle, or its last number and its first
abbrev pub AreOnCycle : List ℕ → ℕ → ℕ → Type 0
AreOnCycle [] u v = ⊥
AreOnCycle (x ∷ rest) u v = AreNeighbours (x ∷ rest) u v ⊎ ((last_of x rest ≡ u) × (x ≡ v))

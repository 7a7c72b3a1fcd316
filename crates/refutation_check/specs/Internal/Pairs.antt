-- Where the checker looks up the pairs in force.
use Rattle.std.specs.Prelude.{◌≡◌, ◌⊎◌, ◌↔◌, ℕ, ◌<◌, List, [], ◌∷◌, ◌++◌}
use Rattle.cert_check.specs.declared.pair_tables.PairTable.{PairTable}
use Rattle.cert_check.specs.PairTables.{HasPair, IsSquare}
use Rattle.refutation_check.specs.declared.pairs.Pair.{Pair}
use Rattle.refutation_check.specs.declared.pairs.PairsInForce.{PairsInForce}

-- one of the pairs is that of u and v
abbrev pub InForce : List Pair → ℕ → ℕ → Type 0
InForce [] u v = ⊥
InForce (p ∷ pairs) u v = ((p.from ≡ u) × (p.to ≡ v)) ⊎ InForce pairs u v

-- no pair stands there twice
abbrev pub AreDistinct : List Pair → Type 0
AreDistinct [] = Unit {0}
AreDistinct (p ∷ pairs) = (InForce pairs p.from p.to → ⊥) × AreDistinct pairs

-- the pairs, and then that of u and v, where it isn't one of them
abbrev pub IsWith : List Pair → ℕ → ℕ → List Pair → Type 0
IsWith pairs u v next =
    (InForce pairs u v × (next ≡ pairs)) ⊎ ((InForce pairs u v → ⊥) × (next ≡ pairs ++ record { from = u; to = v } ∷ []))

-- The table has the pairs of the list, and no others, and the list has each of them once.
pub record IsTableOf (table : PairTable) (pairs : List Pair) : Type 0 where
  pub square : IsSquare table
  pub distinct : AreDistinct pairs
  pub set : (u v : ℕ) → HasPair table u v ↔ InForce pairs u v

-- The table has the pairs in force, and room for one with `init`.
pub record IsKept (state : PairsInForce) : Type 0 where
  pub some : 0 < state.table.nodes
  pub table : IsTableOf state.table state.pairs.items

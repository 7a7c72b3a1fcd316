-- Pairs of numbers, kept as rows of bits, and what is asked of them so that each derived pair is one of them.
use Rattle.std.specs.Prelude.{◌⊎◌, ◌↔◌, ℕ, List, slice_index}
use Rattle.bitsets.specs.Rows.{HasBit}
use Rattle.tso_ops.specs.Values.{TraceValue}
use Rattle.tso_cert.specs.declared.rules.BaseRule.TheVariants.{Init, Read}
use Rattle.tso_cert.specs.declared.rules.InferredRule.TheVariants.{LoadPast, StorePast, SwapBefore, SwapAfter}
use Rattle.tso_model.specs.Rules.{BasePair, IsOwnBy}
use Rattle.tso_model.specs.NewEdges.{IsGivenBy}
use Rattle.tso_rules.specs.Rows.{IsLater}

-- the table has the pair
abbrev pub HasPair : List ℕ → ℕ → ℕ → Type 0
HasPair rows u v = HasBit (slice_index rows u) v

-- the table has each pair of the other
abbrev pub HasAllPairs : List ℕ → List ℕ → Type 0
HasAllPairs rows others = (u v : ℕ) → HasPair others u v → HasPair rows u v

-- the one table has the pairs of the other, turned around
abbrev pub AreTransposed : List ℕ → List ℕ → Type 0
AreTransposed rows columns = (u v : ℕ) → HasPair rows u v ↔ HasPair columns v u

-- number u has no pair with itself, and has those of the numbers that it has pairs with
abbrev pub IsStrictRow : List ℕ → ℕ → Type 0
IsStrictRow rows u = (HasPair rows u u → ⊥) × ((v w : ℕ) → HasPair rows u v → HasPair rows v w → HasPair rows u w)

-- the pairs are a strict order
abbrev pub IsStrictOrder : List ℕ → Type 0
IsStrictOrder rows = (u : ℕ) → IsStrictRow rows u

-- the table has the pairs that the rule Init and program order give
abbrev pub AreOrderPairs : TraceValue → List ℕ → Type 0
AreOrderPairs t rows = (u v : ℕ) → BasePair t Init u v ⊎ IsLater t u v → HasPair rows u v

-- The table has the pairs that load l gives by what it reads, where its pairs stand for paths.
pub record IsClosedForReads (t : TraceValue) (rows : List ℕ) (l : ℕ) : Type 0 where
  pub read : (u : ℕ) → BasePair t Read u l → HasPair rows u l
  pub own : (u v : ℕ) → IsOwnBy t l u v → HasPair rows u v
  pub load_past : (u v : ℕ) → IsGivenBy t LoadPast l (HasPair rows) u v → HasPair rows u v
  pub store_past : (u v : ℕ) → IsGivenBy t StorePast l (HasPair rows) u v → HasPair rows u v

-- The table has the pairs that load l gives if it is a swap's, where its pairs stand for paths.
pub record IsClosedForSwap (t : TraceValue) (rows : List ℕ) (l : ℕ) : Type 0 where
  pub before : (u v : ℕ) → IsGivenBy t SwapBefore l (HasPair rows) u v → HasPair rows u v
  pub after : (u v : ℕ) → IsGivenBy t SwapAfter l (HasPair rows) u v → HasPair rows u v

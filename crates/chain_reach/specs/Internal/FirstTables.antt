-- Tables with a row for each number, which has for each chain a number: the row's number leads to those of the chain from there on.
use Rattle.std.specs.Prelude.{◌≡◌, ◌⊎◌, ◌↔◌, ℕ, ◌+◌, ◌*◌, ◌/◌, ◌<◌, ◌≤◌, List, length, slice_index}
use Rattle.bitsets.specs.Rows.{HasNumber}

-- what row x has for chain d, in a table for so many chains
abbrev pub entry : List ℕ → ℕ → ℕ → ℕ → ℕ
entry table count x d = slice_index table (x * count + d)

-- x leads to y, where `keys` says the chain of each number
abbrev pub LeadsBy : List ℕ → ℕ → List ℕ → ℕ → ℕ → Type 0
LeadsBy keys count table x y = (x < length keys) × (y < length keys) × (entry table count x (slice_index keys y) ≤ y)

-- x is y, or leads to it
abbrev pub IsOrLeadsBy : List ℕ → ℕ → List ℕ → ℕ → ℕ → Type 0
IsOrLeadsBy keys count table x y = (x ≡ y) ⊎ LeadsBy keys count table x y

-- x gains what v leads to once u leads to v: it is or leads to u, and doesn't lead to v yet
abbrev pub GrowsBy : List ℕ → ℕ → List ℕ → ℕ → ℕ → ℕ → Type 0
GrowsBy keys count table u v x = IsOrLeadsBy keys count table x u × (LeadsBy keys count table x v → ⊥)

-- the numbers of chain d that gain it
abbrev pub GrowsIn : List ℕ → ℕ → ℕ → List ℕ → ℕ → ℕ → ℕ → Type 0
GrowsIn keys count d table u v x = ((x < length keys) × (slice_index keys x ≡ d)) × GrowsBy keys count table u v x

-- the numbers of the chains below d that gain it
abbrev pub GrowsBelow : List ℕ → ℕ → ℕ → List ℕ → ℕ → ℕ → ℕ → Type 0
GrowsBelow keys count d table u v x = ((x < length keys) × (slice_index keys x < d)) × GrowsBy keys count table u v x

-- x is u or leads to it, by what its row has for the chain of u
abbrev pub Reaches : List ℕ → ℕ → ℕ → ℕ → ℕ → Type 0
Reaches table count u chain x = (x ≡ u) ⊎ (entry table count x chain ≤ u)

-- What a `Reach` keeps: what a number leads to leads on, and each number leads to those after it in its chain.
pub record KeepsReach (keys : List ℕ) (count : ℕ) (table given grown : List ℕ) : Type 0 where
  pub sized : length table ≡ length keys * count
  pub given_sized : length given ≡ count
  pub grown_sized : length grown ≡ (length keys + 63) / 64
  pub grown_within : (x : ℕ) → HasNumber grown x → x < length keys
  pub transitive : (x y z : ℕ) → LeadsBy keys count table x y → LeadsBy keys count table y z → LeadsBy keys count table x z
  pub ordered : (x y : ℕ) → x < y → y < length keys → slice_index keys x ≡ slice_index keys y → LeadsBy keys count table x y

-- The ends of an edge, with their chains.
pub record IsEdge (keys : List ℕ) (count u from v to : ℕ) : Type 0 where
  pub from_node : u < length keys
  pub to_node : v < length keys
  pub from_chain : from ≡ slice_index keys u
  pub to_chain : to ≡ slice_index keys v
  pub from_within : from < count
  pub to_within : to < count

-- In chain d those that are or lead to u come first, and those that lead to v too.
pub record IsReadyChain (keys : List ℕ) (count d : ℕ) (table grown : List ℕ) (u v : ℕ) : Type 0 where
  pub sized : length table ≡ length keys * count
  pub grown_sized : length grown ≡ (length keys + 63) / 64
  pub from_first : (x z : ℕ) → x < z → z < length keys → slice_index keys x ≡ d → slice_index keys z ≡ d → IsOrLeadsBy keys count table z u → IsOrLeadsBy keys count table x u
  pub to_first : (x z : ℕ) → x < z → z < length keys → slice_index keys x ≡ d → slice_index keys z ≡ d → LeadsBy keys count table z v → LeadsBy keys count table x v

-- For each chain the first number that v, which is in this chain, is or leads to.
pub record IsGiven (table : List ℕ) (count v chain : ℕ) (given : List ℕ) : Type 0 where
  pub gives : (d y : ℕ) → d < count → (slice_index given d ≤ y) ↔ ((entry table count v d ≤ y) ⊎ ((d ≡ chain) × (v ≤ y)))

-- The rows chosen were lowered to what is given for each chain, where that is less; the others are as they were.
pub record LowersRows (old new : List ℕ) (count : ℕ) (given : List ℕ) (Chosen : ℕ → Type 0) : Type 0 where
  pub sized : length new ≡ length old
  pub lowered : (x d y : ℕ) → d < count → (entry new count x d ≤ y) ↔ ((entry old count x d ≤ y) ⊎ (Chosen x × (slice_index given d ≤ y)))

-- Just the numbers chosen were marked.
pub record MarksRows (old new : List ℕ) (Chosen : ℕ → Type 0) : Type 0 where
  pub sized : length new ≡ length old
  pub marked : (x : ℕ) → HasNumber new x ↔ (HasNumber old x ⊎ Chosen x)

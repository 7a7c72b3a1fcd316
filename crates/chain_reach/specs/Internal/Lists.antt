-- The lists of the numbers of each group, and places in ascending lists.
use Rattle.std.specs.Prelude.{◌≡◌, ℕ, ◌^◌, ◌<◌, ◌≤◌, List, [], length, get_or, slice_index, Contains}

-- The list has the numbers of group d, which `keys` says of each number, ascending.
pub record IsGroup (keys list : List ℕ) (d : ℕ) : Type 0 where
  pub within : (k : ℕ) → k < length list → slice_index list k < length keys
  pub keyed : (k : ℕ) → k < length list → slice_index keys (slice_index list k) ≡ d
  pub all : (n : ℕ) → n < length keys → slice_index keys n ≡ d → (Contains list n → ⊥) → ⊥
  pub ascending : (i j : ℕ) → i < j → j < length list → slice_index list i < slice_index list j

-- The lists have the numbers by their groups.
pub record AreGroups (keys : List ℕ) (lists : List (List ℕ)) : Type 0 where
  pub small : length keys < 2 ^ 32
  pub within : (n : ℕ) → n < length keys → slice_index keys n < length lists
  pub each : (d : ℕ) → d < length lists → IsGroup keys (get_or lists d []) d

-- The items below place i are of those described, and those from there on aren't.
pub record IsCut (list : List ℕ) (Of : ℕ → Type 0) (i : ℕ) : Type 0 where
  pub within : i ≤ length list
  pub below : (k : ℕ) → k < i → Of (slice_index list k)
  pub from : (k : ℕ) → i ≤ k → k < length list → Of (slice_index list k) → ⊥

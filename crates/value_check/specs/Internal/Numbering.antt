-- Numbers for pairs.
use Rattle.std.specs.Prelude.{◌≡◌, ℕ, ◌<◌, ◌≤◌, ◌&&◌, Bool, List, length, All, Some, slice_index, get_or, nat_eq}
use Rattle.std.specs.HashMap.{HashMap, get}

-- the pair at an index
abbrev pub pair_at : List (ℕ × ℕ) → ℕ → ℕ × ℕ
pair_at pairs i = get_or pairs i (0, 0)

-- Each pair has a number below the count, and two have one number exactly where they are equal.
pub record IsNumbering (pairs : List (ℕ × ℕ)) (numbers : List ℕ) (count : ℕ) : Type 0 where
  pub whole : length numbers ≡ length pairs
  pub below : All (λ n. n < count) numbers
  pub few : count ≤ length numbers
  pub same : (i j : ℕ) → i < length pairs → j < length pairs → pair_at pairs i ≡ pair_at pairs j → slice_index numbers i ≡ slice_index numbers j
  pub apart : (i j : ℕ) → i < length pairs → j < length pairs → slice_index numbers i ≡ slice_index numbers j → pair_at pairs i ≡ pair_at pairs j

abbrev pub same_pair : ℕ × ℕ → ℕ × ℕ → Bool
same_pair u v = nat_eq u.0 v.0 && nat_eq u.1 v.1

module _ {S : Type 0} where
  -- The map has the numbers of the first pairs, each for one pair.
  pub record FindsNumbers (pairs : List (ℕ × ℕ)) (found : HashMap (ℕ × ℕ) ℕ S) (numbers : List ℕ) (count : ℕ) : Type 0 where
    pub finds : (j : ℕ) → j < length numbers → get same_pair found (pair_at pairs j) ≡ Some (slice_index numbers j)
    pub below : (w : ℕ × ℕ) (n : ℕ) → get same_pair found w ≡ Some n → n < count
    pub once : (w v : ℕ × ℕ) (n : ℕ) → get same_pair found w ≡ Some n → get same_pair found v ≡ Some n → w ≡ v
    pub few : count ≤ length numbers

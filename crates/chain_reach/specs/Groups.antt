-- Numbers in groups: each number below a bound is in one of them.
use Rattle.std.specs.Prelude.{◌≡◌, ℕ, ◌<◌, ◌≤◌, length, slice_index}
use Rattle.chain_reach.specs.declared.types.Groups.{Groups}

-- how many numbers there are: each is below it
abbrev pub node_count : Groups → ℕ
node_count g = length g.keys.items

-- how many groups there are
abbrev pub count_of : Groups → ℕ
count_of g = length g.lists.items

-- the group of a number
abbrev pub group_of : Groups → ℕ → ℕ
group_of g n = slice_index g.keys.items n

-- number n is in group d
abbrev pub IsIn : Groups → ℕ → ℕ → Type 0
IsIn g d n = (n < node_count g) × (group_of g n ≡ d)

-- two numbers of one group, of which the first is less
abbrev pub IsLaterIn : Groups → ℕ → ℕ → Type 0
IsLaterIn g x y = (x < y) × (y < node_count g) × (group_of g x ≡ group_of g y)

-- v is the least number of group d from n on
pub record IsFirstFrom (g : Groups) (d n v : ℕ) : Type 0 where
  pub inside : IsIn g d v
  pub from : n ≤ v
  pub least : (w : ℕ) → IsIn g d w → n ≤ w → v ≤ w

-- v is the greatest number of group d below n
pub record IsLastBefore (g : Groups) (d n v : ℕ) : Type 0 where
  pub inside : IsIn g d v
  pub below : v < n
  pub greatest : (w : ℕ) → IsIn g d w → w < n → w ≤ v

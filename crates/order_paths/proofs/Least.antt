-- A least path and a least cycle are unique.
use Rattle.std.proofs.Common.{◌≡◌, ◌⊎◌, ℕ, ◌<◌, List, [], ◌∷◌, length, refl, arith, inl, inr}
use Rattle.order_paths.specs.Paths.{IsAtMost, IsNoGreater, IsLeastPath, IsLeastCycle}

-- of two comparisons, by a number and then by a fact, that hold both ways, the numbers are equal and both facts hold
pub level_both_ways : (x y : ℕ) (Up Down : Type 0) → (x < y) ⊎ ((x ≡ y) × Up) → (y < x) ⊎ ((y ≡ x) × Down) → (x ≡ y) × Up × Down
level_both_ways x y Up Down (inl less) (inl more) = absurd (omega arith)
level_both_ways x y Up Down (inl less) (inr down) = absurd (omega (arith, down.0))
level_both_ways x y Up Down (inr up) (inl more) = absurd (omega (arith, up.0))
level_both_ways x y Up Down (inr up) (inr down) = (up.0, up.1, down.1)

-- two lists of one length that are at most each other are one
pub is_at_most_antisymmetric : (xs ys : List ℕ) → length xs ≡ length ys → IsAtMost xs ys → IsAtMost ys xs → xs ≡ ys
is_at_most_antisymmetric [] [] same up down = refl
is_at_most_antisymmetric [] (y ∷ ys) same up down = absurd (omega arith)
is_at_most_antisymmetric (x ∷ xs) [] same up down = absurd (omega arith)
is_at_most_antisymmetric (x ∷ xs) (y ∷ ys) same up down =
    let level : (x ≡ y) × IsAtMost xs ys × IsAtMost ys xs = level_both_ways x y (IsAtMost xs ys) (IsAtMost ys xs) up down in
    let rest : xs ≡ ys = is_at_most_antisymmetric xs ys (omega arith) level.1 level.2 in
    let head : x ≡ y = level.0 in
    cc

-- two lists that are no greater than each other are one
pub is_no_greater_antisymmetric : (xs ys : List ℕ) → IsNoGreater xs ys → IsNoGreater ys xs → xs ≡ ys
is_no_greater_antisymmetric xs ys up down =
    let level : (length xs ≡ length ys) × IsAtMost xs ys × IsAtMost ys xs =
    level_both_ways (length xs) (length ys) (IsAtMost xs ys) (IsAtMost ys xs) up down in
    is_at_most_antisymmetric xs ys level.0 level.1 level.2

-- there is at most one least path
pub least_path_unique : (Edge : ℕ → ℕ → Type 0) (u v : ℕ) (path other : List ℕ) →
    IsLeastPath Edge u v path → IsLeastPath Edge u v other → path ≡ other
least_path_unique Edge u v path other least least_other =
    is_no_greater_antisymmetric path other (least.1 other least_other.0) (least_other.1 path least.0)

-- there is at most one least cycle
pub least_cycle_unique : (Edge : ℕ → ℕ → Type 0) (cycle other : List ℕ) →
    IsLeastCycle Edge cycle → IsLeastCycle Edge other → cycle ≡ other
least_cycle_unique Edge cycle other least least_other =
    is_no_greater_antisymmetric cycle other (least.1 other least_other.0) (least_other.1 cycle least.0)

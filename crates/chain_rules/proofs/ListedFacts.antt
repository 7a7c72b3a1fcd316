-- The first of the numbers that a list has.
use Rattle.std.proofs.Common.{◌≡◌, ℕ, Some, None, List, [], ◌∷◌, slice_get, refl, subst, arith}
use Rattle.bitsets.specs.Rows.{IsListOf}

-- the first of a list's numbers, and that it has none
pub listed_none : (list : List ℕ) (Of : ℕ → Type 0) → IsListOf list Of → None ≡ slice_get list 0 → (v : ℕ) → Of v → ⊥
listed_none [] Of is none v of = (let low = (is.all v of).1 in omega (arith, low))
listed_none (x ∷ xs) Of is none v of = absurd cc

pub listed_first : (list : List ℕ) (Of : ℕ → Type 0) (x : ℕ) → IsListOf list Of → Some x ≡ slice_get list 0 → Of x
listed_first [] Of x is some = absurd cc
listed_first (y ∷ xs) Of x is some = (let same : y ≡ x = cc in subst Of same (is.only y (0, omega arith, refl)))

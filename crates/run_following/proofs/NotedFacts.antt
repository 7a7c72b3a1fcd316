-- Lemmas on the refusals that are noted.
use Rattle.std.proofs.Common.{◌≡◌, ◌<◌, ◌≤◌, refl, ap, ℕ, zero, suc, List, [], ◌∷◌, ◌++◌, length, take, arith}

module _ {X : Type 0} where
  pub take_all : (n : ℕ) (xs : List X) (x : X) → length (take n xs) < n → take n (xs ++ x ∷ []) ≡ take n xs ++ x ∷ []
  take_all zero xs x few = absurd (omega (arith, few))
  take_all (suc zero) [] x few = refl
  take_all (suc (suc n)) [] x few = refl
  take_all (suc n) (y ∷ xs) x few = ap (λ zs. y ∷ zs) (take_all n xs x (omega (arith, few)))

  pub take_same : (n : ℕ) (xs : List X) (x : X) → n ≤ length (take n xs) → take n (xs ++ x ∷ []) ≡ take n xs
  take_same zero xs x full = refl
  take_same (suc n) [] x full = absurd (omega (arith, full))
  take_same (suc n) (y ∷ xs) x full = ap (λ zs. y ∷ zs) (take_same n xs x (omega (arith, full)))

-- A lemma on the characters of a text.
use Rattle.std.proofs.Common.{◌≡◌, ℕ, List, [], ◌∷◌, ap, map, refl}

pub each_itself : (xs : List ℕ) → map (λ c. c) xs ≡ xs
each_itself [] = refl
each_itself (x ∷ xs) = ap (λ ys. x ∷ ys) (each_itself xs)

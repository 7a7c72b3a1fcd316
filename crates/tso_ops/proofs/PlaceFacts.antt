-- Places in two lists joined.
use Rattle.std.proofs.Common.{◌≡◌, ◌⊎◌, ⊎_elim, inl, inr, ap, ℕ, zero, suc, ◌+◌, List, [], ◌∷◌, ◌++◌, length, Some, slice_get, arith}

pub get-left : {X : Type 0} (xs ys : List X) (k : ℕ) (x : X) → slice_get xs k ≡ Some x → slice_get (xs ++ ys) k ≡ Some x
get-left [] ys k x at = absurd cc
get-left (y ∷ xs) ys zero x at = at
get-left (y ∷ xs) ys (suc k) x at = get-left xs ys k x at

pub get-right : {X : Type 0} (xs ys : List X) (i j : ℕ) → i ≡ length xs + j → slice_get (xs ++ ys) i ≡ slice_get ys j
get-right [] ys i j is = let same : i ≡ j = omega arith in ap (slice_get ys) same
get-right (x ∷ xs) ys zero j is = absurd (omega arith)
get-right (x ∷ xs) ys (suc i) j is = get-right xs ys i j (omega arith)

abbrev pub IsLater : {X : Type 0} → List X → List X → ℕ → X → Type 0
IsLater xs ys k x = (j : ℕ) × (k ≡ length xs + j) × (slice_get ys j ≡ Some x)

pub get-split : {X : Type 0} (xs ys : List X) (k : ℕ) (x : X) → slice_get (xs ++ ys) k ≡ Some x → (slice_get xs k ≡ Some x) ⊎ IsLater xs ys k x
get-split [] ys k x at = inr (k, omega arith, at)
get-split (y ∷ xs) ys zero x at = inl at
get-split (y ∷ xs) ys (suc k) x at = ⊎_elim (λ here. inl here) (λ (j, is, later). inr (j, omega arith, later)) (get-split xs ys k x at)

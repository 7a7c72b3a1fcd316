-- Lemmas on the first element of a list that passes a test, by its number.
use Rattle.std.proofs.Common.{◌≡◌, ℕ, zero, suc, ◌+◌, ◌<◌, Bool, true, false, cond, List, [], ◌∷◌, ◌++◌, length, get_or, Some, None, refl, ap, ◌∙◌, arith}
use Rattle.std.specs.List.{position_from}

-- the element at a place is the first that passes
pub record IsFirstAt {X : Type 0} (t : X → Bool) (xs : List X) (j : ℕ) (d : X) : Type 0 where
  pub inside : j < length xs
  pub passes : t (get_or xs j d) ≡ true
  pub first : (k : ℕ) → k < j → t (get_or xs k d) ≡ false

module _ {X : Type 0} (t : X → Bool) where
  first_after : (x : X) (xs : List X) (j : ℕ) (d : X) → t x ≡ false → IsFirstAt t xs j d → IsFirstAt t (x ∷ xs) (suc j) d
  first_after x xs j d fails at = record { inside = omega (arith, at.inside); passes = at.passes; first = before }
    where
      before : (k : ℕ) → k < suc j → t (get_or (x ∷ xs) k d) ≡ false
      before zero low = fails
      before (suc k) low = at.first k (omega (arith, low))

  -- what is found stands there
  pub found_at : (i n : ℕ) (xs : List X) (d : X) → position_from t i xs ≡ Some n → (j : ℕ) × (n ≡ i + j) × IsFirstAt t xs j d
  found_at i n [] d is = absurd cc
  found_at i n (x ∷ xs) d is = by (t x) refl (λ e. found_at (i + 1) n xs d e)
    where
      by : (b : Bool) → t x ≡ b → (position_from t (i + 1) xs ≡ Some n → (j : ℕ) × (n ≡ i + 1 + j) × IsFirstAt t xs j d) → (j : ℕ) × (n ≡ i + j) × IsFirstAt t (x ∷ xs) j d
      by true here go =
          let e : Some i ≡ Some n = rw here at is in
          let same : i ≡ n = cc in
          (0, omega (arith, same), record { inside = omega arith; passes = here; first = λ k low. absurd (omega (arith, low)) })
      by false here go =
          let e : position_from t (i + 1) xs ≡ Some n = rw here at is in
          let more = go e in
          (suc more.0, omega (arith, more.1), first_after x xs more.0 d here more.2)

  -- and what stands there is found
  pub at_found : (i j : ℕ) (xs : List X) (d : X) → IsFirstAt t xs j d → position_from t i xs ≡ Some (i + j)
  at_found i j [] d at = absurd (let low = at.inside in omega (arith, low))
  at_found i zero (x ∷ xs) d at = let here : t x ≡ true = at.passes in let same : i ≡ i + 0 = omega arith in rw here (ap Some same)
  at_found i (suc j) (x ∷ xs) d at =
      let here : t x ≡ false = at.first 0 (omega arith) in
      let more = at_found (i + 1) j xs d (record { inside = (let low = at.inside in omega (arith, low)); passes = at.passes; first = λ k low. at.first (suc k) (omega (arith, low)) }) in
      let same : i + 1 + j ≡ i + suc j = omega arith in
      rw here (more ∙ ap Some same)

  -- one more element
  pub push-some : (i n : ℕ) (xs : List X) (y : X) → position_from t i xs ≡ Some n → position_from t i (xs ++ y ∷ []) ≡ Some n
  push-some i n [] y is = absurd cc
  push-some i n (x ∷ xs) y is = by (t x) refl (λ e. push-some (i + 1) n xs y e)
    where
      by : (b : Bool) → t x ≡ b → (position_from t (i + 1) xs ≡ Some n → position_from t (i + 1) (xs ++ y ∷ []) ≡ Some n) → position_from t i (x ∷ xs ++ y ∷ []) ≡ Some n
      by true here go = let e : Some i ≡ Some n = rw here at is in rw here e
      by false here go = let e : position_from t (i + 1) xs ≡ Some n = rw here at is in rw here (go e)

  pub push-none : (i : ℕ) (xs : List X) (y : X) → position_from t i xs ≡ None → position_from t i (xs ++ y ∷ []) ≡ cond (t y) (Some (i + length xs)) None
  push-none i [] y is = let same : i ≡ i + 0 = omega arith in ap (λ n. cond (t y) (Some n) None) same
  push-none i (x ∷ xs) y is = by (t x) refl (λ e. push-none (i + 1) xs y e)
    where
      by : (b : Bool) → t x ≡ b → (position_from t (i + 1) xs ≡ None → position_from t (i + 1) (xs ++ y ∷ []) ≡ cond (t y) (Some (i + 1 + length xs)) None) →
          position_from t i (x ∷ xs ++ y ∷ []) ≡ cond (t y) (Some (i + suc (length xs))) None
      by true here go = absurd (let e : Some i ≡ None = rw here at is in cc)
      by false here go =
          let e : position_from t (i + 1) xs ≡ None = rw here at is in
          let same : i + 1 + length xs ≡ i + suc (length xs) = omega arith in
          rw here (go e ∙ ap (λ n. cond (t y) (Some n) None) same)

-- the same test finds the same
pub position_from-same : {X : Type 0} (t u : X → Bool) (i : ℕ) (xs : List X) → ((x : X) → t x ≡ u x) → position_from t i xs ≡ position_from u i xs
position_from-same t u i [] same = refl
position_from-same t u i (x ∷ xs) same = rw (same x, position_from-same t u (i + 1) xs same) refl

-- where none passes nothing is found
pub position_from-none : {X : Type 0} (t : X → Bool) (i : ℕ) (xs : List X) → ((x : X) → t x ≡ false) → position_from t i xs ≡ None
position_from-none t i [] fails = refl
position_from-none t i (x ∷ xs) fails = rw (fails x) (position_from-none t (i + 1) xs fails)

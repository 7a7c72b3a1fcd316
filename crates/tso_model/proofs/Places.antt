-- Places in an order, and how often numbers stand in it: two numbers at one place are one if either is listed.
use Rattle.std.proofs.Common.{◌≡◌, ◌∙◌, ◌⊎◌, sym, ap, ℕ, zero, suc, ◌+◌, ◌<◌, Bool, true, false, cond, List, [], ◌∷◌, ◌++◌, length, arith, eqb, ⊎_elim, inl, inr, ◌≢◌}
use Rattle.std.proofs.lemmas.Bool.{cases_eq, cases_lt, eq-eqb, ne_eqb}
use Rattle.tso_model.specs.Axioms.{occurrences, place, IsUpTo, IsBefore}

-- the first number's place
pub place-here : (x : ℕ) (rest : List ℕ) (n : ℕ) → x ≡ n → place (x ∷ rest) n ≡ 0
place-here x rest n same = let test : eqb x n ≡ true = eq-eqb x n same in rw test

-- the place of a number other than the first
pub place-later : (x : ℕ) (rest : List ℕ) (n : ℕ) → (x ≡ n → ⊥) → place (x ∷ rest) n ≡ suc (place rest n)
place-later x rest n other = let test : eqb x n ≡ false = ne_eqb x n other in rw test

-- a number other than the first occurs as often in the rest
pub occurrences-later : (n x : ℕ) (rest : List ℕ) → (x ≡ n → ⊥) → occurrences n (x ∷ rest) ≡ occurrences n rest
occurrences-later n x rest other = let test : eqb x n ≡ false = ne_eqb x n other in rw test

-- a test adds one or none
test-sum : (b : Bool) (k : ℕ) → cond b (suc k) k ≡ cond b 1 0 + k
test-sum true k = omega arith
test-sum false k = omega arith

pub occurrences-cons : (n x : ℕ) (rest : List ℕ) → occurrences n (x ∷ rest) ≡ occurrences n (x ∷ []) + occurrences n rest
occurrences-cons n x rest = test-sum (eqb x n) (occurrences n rest)

pub occurrences-same : (n x : ℕ) → x ≡ n → occurrences n (x ∷ []) ≡ 1
occurrences-same n x same = let test : eqb x n ≡ true = eq-eqb x n same in rw test

pub occurrences-other : (n x : ℕ) → (x ≡ n → ⊥) → occurrences n (x ∷ []) ≡ 0
occurrences-other n x other = occurrences-later n x [] other

pub occurrences-append : (n : ℕ) (xs ys : List ℕ) → occurrences n (xs ++ ys) ≡ occurrences n xs + occurrences n ys
occurrences-append n [] ys = omega arith
occurrences-append n (x ∷ xs) ys = omega (arith, occurrences-cons n x (xs ++ ys), occurrences-cons n x xs, occurrences-append n xs ys)

-- a number that is listed has the same place with more numbers after it
pub place-listed : (n : ℕ) (xs ys : List ℕ) → 0 < occurrences n xs → (place (xs ++ ys) n ≡ place xs n) × (place xs n < length xs)
place-listed n [] ys listed = absurd (omega arith)
place-listed n (x ∷ xs) ys listed = elim (cases_eq x n) [
  | inl same ↦ (place-here x (xs ++ ys) n same ∙ sym (place-here x xs n same), omega (arith, place-here x xs n same))
  | inr other ↦
      let rest = place-listed n xs ys (omega (arith, listed, occurrences-later n x xs other)) in
      (place-later x (xs ++ ys) n other ∙ ap suc rest.0 ∙ sym (place-later x xs n other), omega (arith, rest.1, place-later x xs n other))
]

-- the place of a number that isn't listed before
pub place-past : (n : ℕ) (xs ys : List ℕ) → occurrences n xs ≡ 0 → place (xs ++ ys) n ≡ length xs + place ys n
place-past n [] ys none = omega arith
place-past n (x ∷ xs) ys none = elim (cases_eq x n) [
  | inl same ↦ absurd (omega (arith, none, occurrences-cons n x xs, occurrences-same n x same))
  | inr other ↦ omega (arith, place-later x (xs ++ ys) n other, place-past n xs ys (omega (arith, none, occurrences-later n x xs other)))
]

-- equal places, of which one is a listed number's, are one number's
pub place_same : (order : List ℕ) (u v : ℕ) → 0 < occurrences v order → place order u ≡ place order v → u ≡ v
place_same [] u v listed same = absurd (omega arith)
place_same (x ∷ rest) u v listed same = by_cases (cases_eq x u) (cases_eq x v) (place_same rest u v)
  where
    by_cases : (x ≡ u) ⊎ (x ≡ u → ⊥) → (x ≡ v) ⊎ (x ≡ v → ⊥) → (0 < occurrences v rest → place rest u ≡ place rest v → u ≡ v) → u ≡ v
    by_cases (inl here) (inl there) in_rest = cc
    by_cases (inl here) (inr later) in_rest = absurd (omega (arith, place-here x rest u here, place-later x rest v later, same))
    by_cases (inr later) (inl there) in_rest = absurd (omega (arith, place-later x rest u later, place-here x rest v there, same))
    by_cases (inr later) (inr other) in_rest =
        in_rest (omega (arith, listed, occurrences-later v x rest other)) (omega (arith, same, place-later x rest u later, place-later x rest v other))

-- with number 0 prepended each other place is one more
pub place-with_init : (order : List ℕ) (n : ℕ) → 0 < n → place (0 ∷ order) n ≡ suc (place order n)
place-with_init order n above = place-later 0 order n (λ same. omega arith)

-- a number that stands no later than another, where that is listed and above 0, stands before it
pub before_from_up_to : (order : List ℕ) (u v : ℕ) → 0 < occurrences v order → 0 < v → u ≢ v → IsUpTo order u v → IsBefore order u v
before_from_up_to order zero v listed above other up_to = omega (arith, place-with_init order v above)
before_from_up_to order (suc k) v listed above other up_to =
    let apart : place order (suc k) ≢ place order v = λ same. other (place_same order (suc k) v listed same) in
    omega (arith, up_to, place-with_init order v above, place-with_init order (suc k) (omega arith))

-- number 0 stands before all other numbers
pub zero_before : (order : List ℕ) (n : ℕ) → 0 < n → IsBefore order 0 n
zero_before order n above = omega (arith, place-with_init order n above)

-- nothing stands before number 0
pub nothing_before_zero : (order : List ℕ) (u : ℕ) → IsBefore order u 0 → ⊥
nothing_before_zero order u before = omega arith

-- of two numbers above 0 the first stands before the second, or the second no later than the first
pub before_or_up_to : (order : List ℕ) (u v : ℕ) → 0 < u → 0 < v → IsBefore order u v ⊎ IsUpTo order v u
before_or_up_to order u v above_u above_v =
    let prefix_u = place-with_init order u above_u in
    let prefix_v = place-with_init order v above_v in
    ⊎_elim (λ less. inl (omega arith)) (λ more. inr more) (cases_lt (place order u) (place order v))

-- a number above 0 that stands before another stands no later than it
pub up_to_from_before : (order : List ℕ) (u v : ℕ) → 0 < u → IsBefore order u v → IsUpTo order u v
up_to_from_before order u zero above before = absurd (nothing_before_zero order u before)
up_to_from_before order u (suc k) above before =
    omega (arith, before, place-with_init order u above, place-with_init order (suc k) (omega arith))

-- no number stands no later than one above 0 that stands before it
pub before_not_up_to : (order : List ℕ) (u v : ℕ) → 0 < u → IsBefore order u v → IsUpTo order v u → ⊥
before_not_up_to order u zero above before up_to = nothing_before_zero order u before
before_not_up_to order u (suc k) above before up_to =
    omega (arith, before, up_to, place-with_init order u above, place-with_init order (suc k) (omega arith))

-- of two numbers equal to these the first stands before the second too
pub before_of_same : (order : List ℕ) (x y u v : ℕ) → x ≡ u → y ≡ v → IsBefore order x y → IsBefore order u v
before_of_same order x y u v first second before = rw second at (rw first at before)

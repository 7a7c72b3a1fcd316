-- Lists that are joined from a list for each number: what they have, and that they are in order.
use Rattle.std.proofs.Common.{◌≡◌, ◌⊎◌, inl, inr, ℕ, zero, suc, ◌<◌, List, [], ◌∷◌, ◌++◌, Some, slice_get, refl, subst, arith}
use Rattle.std.proofs.lemmas.Bool.{cases_order}
use Rattle.std.proofs.lemmas.Option.{none-some, same_Some}
use Rattle.tso_model.proofs.OrderedLists.{AreInOrder}

-- x is one of the list
abbrev pub IsIn : {A : Type 0} → A → List A → Type 0
IsIn x [] = ⊥
IsIn x (y ∷ ys) = (y ≡ x) ⊎ IsIn x ys

-- an element at a place is one of the list
pub IsIn-at : {A : Type 0} (xs : List A) (k : ℕ) (x : A) → slice_get xs k ≡ Some x → IsIn x xs
IsIn-at [] k x at = none-some x at
IsIn-at (y ∷ ys) zero x at = inl (same_Some y x at)
IsIn-at (y ∷ ys) (suc k) x at = inr (IsIn-at ys k x at)

-- one of the list stands at some place
pub IsIn-place : {A : Type 0} (xs : List A) (x : A) → IsIn x xs → (k : ℕ) × (slice_get xs k ≡ Some x)
IsIn-place [] x here = absurd here
IsIn-place (y ∷ ys) x (inl same) = (0, cc)
IsIn-place (y ∷ ys) x (inr later) = let rest = IsIn-place ys x later in (suc rest.0, rest.1)

-- one of a first list is one of the two joined
IsIn-append_left : {A : Type 0} (xs ys : List A) (x : A) → IsIn x xs → IsIn x (xs ++ ys)
IsIn-append_left [] ys x here = absurd here
IsIn-append_left (y ∷ xs) ys x (inl same) = inl same
IsIn-append_left (y ∷ xs) ys x (inr later) = inr (IsIn-append_left xs ys x later)

-- and so is one of the second
IsIn-append_right : {A : Type 0} (xs ys : List A) (x : A) → IsIn x ys → IsIn x (xs ++ ys)
IsIn-append_right [] ys x here = here
IsIn-append_right (y ∷ xs) ys x here = inr (IsIn-append_right xs ys x here)

-- one of two lists joined is one of the first or of the second
IsIn-append_cases : {A : Type 0} (xs ys : List A) (x : A) → IsIn x (xs ++ ys) → IsIn x xs ⊎ IsIn x ys
IsIn-append_cases [] ys x here = inr here
IsIn-append_cases (y ∷ xs) ys x (inl same) = inl (inl same)
IsIn-append_cases (y ∷ xs) ys x (inr later) = elim (IsIn-append_cases xs ys x later) [ inl first ↦ inl (inr first) | inr second ↦ inr second ]

-- each element precedes all that follow it
abbrev pub EachPrecedes : {A : Type 0} → (A → A → Type 0) → List A → Type 0
EachPrecedes Precedes [] = Unit {0}
EachPrecedes Precedes (x ∷ xs) = ((y : _) → IsIn y xs → Precedes x y) × EachPrecedes Precedes xs

-- so the list is in order
pub EachPrecedes-in_order : {A : Type 0} (Precedes : A → A → Type 0) (xs : List A) → EachPrecedes Precedes xs → AreInOrder Precedes xs
EachPrecedes-in_order {A} Precedes xs all = record { rising = λ j k x y less at_x at_y. rising xs all j k x y less at_x at_y }
  where
    rising : (xs : List A) → EachPrecedes Precedes xs → (j k : ℕ) (x y : A) → j < k → slice_get xs j ≡ Some x → slice_get xs k ≡ Some y → Precedes x y
    rising [] all j k x y less at_x at_y = absurd (none-some x at_x)
    rising (z ∷ xs) all j zero x y less at_x at_y = absurd (omega arith)
    rising (z ∷ xs) all zero (suc k) x y less at_x at_y = subst (λ w. Precedes w y) (same_Some z x at_x) (all.0 y (IsIn-at xs k y at_y))
    rising (z ∷ xs) all (suc j) (suc k) x y less at_x at_y = rising xs all.1 j k x y (omega arith) at_x at_y

-- two lists in order are in order together if each element of the first precedes each of the second
EachPrecedes-append : {A : Type 0} (Precedes : A → A → Type 0) (xs ys : List A) → EachPrecedes Precedes xs → EachPrecedes Precedes ys →
    ((x y : A) → IsIn x xs → IsIn y ys → Precedes x y) → EachPrecedes Precedes (xs ++ ys)
EachPrecedes-append Precedes [] ys first second across = second
EachPrecedes-append {A} Precedes (x ∷ xs) ys first second across = (ahead, EachPrecedes-append Precedes xs ys first.1 second (λ z y in_xs in_ys. across z y (inr in_xs) in_ys))
  where
    ahead : (y : A) → IsIn y (xs ++ ys) → Precedes x y
    ahead y here = elim (IsIn-append_cases xs ys y here) [ inl in_xs ↦ first.0 y in_xs | inr in_ys ↦ across x y (inl refl) in_ys ]

-- the lists of the numbers below n, one after the other
pub collected : {A : Type 0} → (ℕ → List A) → ℕ → List A
collected f zero = []
collected f (suc n) = collected f n ++ f n

-- what is collected is one of some number's list
pub IsIn-collected : {A : Type 0} (f : ℕ → List A) (n : ℕ) (x : A) → IsIn x (collected f n) → (i : ℕ) × (i < n) × IsIn x (f i)
unfolding collected
IsIn-collected f zero x here = absurd here
IsIn-collected f (suc n) x here = elim (IsIn-append_cases (collected f n) (f n) x here) [
  | inl before ↦ (let p = IsIn-collected f n x before in (p.0, omega (arith, p.1), p.2))
  | inr last ↦ (n, omega arith, last)
]

-- one of the list of a number below n is collected
pub collected-IsIn : {A : Type 0} (f : ℕ → List A) (n i : ℕ) (x : A) → i < n → IsIn x (f i) → IsIn x (collected f n)
unfolding collected
collected-IsIn f zero i x below here = absurd (omega arith)
collected-IsIn f (suc n) i x below here = elim (cases_order i n) [
  | inl same ↦ IsIn-append_right (collected f n) (f n) x (subst (λ j. IsIn x (f j)) same here)
  | inr (inl less) ↦ IsIn-append_left (collected f n) (f n) x (collected-IsIn f n i x less here)
  | inr (inr more) ↦ absurd (omega arith)
]

-- what is collected is in order if each list is, and what is of a lesser number's list precedes what is of a greater's
pub EachPrecedes-collected : {A : Type 0} (Precedes : A → A → Type 0) (f : ℕ → List A) → ((i : ℕ) → EachPrecedes Precedes (f i)) →
    ((i j : ℕ) (x y : A) → i < j → IsIn x (f i) → IsIn y (f j) → Precedes x y) → (n : ℕ) → EachPrecedes Precedes (collected f n)
unfolding collected
EachPrecedes-collected Precedes f each across zero = tt
EachPrecedes-collected Precedes f each across (suc n) =
    EachPrecedes-append Precedes (collected f n) (f n) (EachPrecedes-collected Precedes f each across n) (each n)
    (λ x y in_before in_last. (let p = IsIn-collected f n x in_before in across p.0 n x y p.1 p.2 in_last))

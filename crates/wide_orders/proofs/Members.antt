-- What stands in a list, by recursion.
use Rattle.std.proofs.Common.{◌≡◌, ◌∙◌, ◌⊎◌, ℕ, zero, suc, cond, Bool, true, false, List, [], ◌∷◌, ◌++◌, map, filter, Some, slice_get, inl, inr, ⊎_elim, refl, sym, ap, subst}
use Rattle.std.specs.List.{flat_map}
use Rattle.std.proofs.lemmas.Bool.{false≢true}
use Rattle.std.proofs.lemmas.Option.{none-some, same_Some}

-- x stands in the list
abbrev pub Has : {X : Type 0} → List X → X → Type 0
Has [] x = ⊥
Has (y ∷ ys) x = (y ≡ x) ⊎ Has ys x

-- in the first of two lists
pub has_left : {X : Type 0} (xs ys : List X) (x : X) → Has xs x → Has (xs ++ ys) x
has_left [] ys x has = absurd has
has_left (z ∷ xs) ys x (inl same) = inl same
has_left (z ∷ xs) ys x (inr later) = inr (has_left xs ys x later)

-- in the second
pub has_right : {X : Type 0} (xs ys : List X) (x : X) → Has ys x → Has (xs ++ ys) x
has_right [] ys x has = has
has_right (z ∷ xs) ys x has = inr (has_right xs ys x has)

-- in one of them
pub has_cases : {X : Type 0} (xs ys : List X) (x : X) → Has (xs ++ ys) x → Has xs x ⊎ Has ys x
has_cases [] ys x has = inr has
has_cases (z ∷ xs) ys x (inl same) = inl (inl same)
has_cases (z ∷ xs) ys x (inr later) = ⊎_elim (λ left. inl (inr left)) (λ right. inr right) (has_cases xs ys x later)

-- in a list of images
pub has_map : {X Y : Type 0} (f : X → Y) (xs : List X) (x : X) → Has xs x → Has (map f xs) (f x)
has_map f [] x has = absurd has
has_map f (z ∷ xs) x (inl same) = inl (ap f same)
has_map f (z ∷ xs) x (inr later) = inr (has_map f xs x later)

-- an image is one of an element
pub from_map : {X Y : Type 0} (f : X → Y) (xs : List X) (y : Y) → Has (map f xs) y → (x : X) × Has xs x × (f x ≡ y)
from_map f [] y has = absurd has
from_map f (z ∷ xs) y (inl same) = (z, inl refl, same)
from_map f (z ∷ xs) y (inr later) = let found = from_map f xs y later in (found.0, inr found.1, found.2)

-- in a list of lists of images
pub has_flat : {X Y : Type 0} (f : X → List Y) (xs : List X) (x : X) (y : Y) → Has xs x → Has (f x) y → Has (flat_map f xs) y
has_flat f [] x y none has = absurd none
has_flat f (z ∷ xs) x y (inl same) has = has_left (f z) (flat_map f xs) y (subst (λ w. Has (f w) y) (sym same) has)
has_flat f (z ∷ xs) x y (inr later) has = has_right (f z) (flat_map f xs) y (has_flat f xs x y later has)

-- what stands there is in the list of an element
pub from_flat : {X Y : Type 0} (f : X → List Y) (xs : List X) (y : Y) → Has (flat_map f xs) y → (x : X) × Has xs x × Has (f x) y
from_flat f [] y has = absurd has
from_flat f (z ∷ xs) y has = elim (has_cases (f z) (flat_map f xs) y has) [
  | inl here ↦ (z, inl refl, here)
  | inr later ↦ (let found = from_flat f xs y later in (found.0, inr found.1, found.2))
]

-- in what passes a test
pub has_filter : {X : Type 0} (test : X → Bool) (xs : List X) (x : X) → Has xs x → test x ≡ true → Has (filter test xs) x
has_filter test [] x has passes = absurd has
has_filter test (z ∷ xs) x has passes = by_test (λ later. has_filter test xs x later passes) (test z) refl has
  where
    by_test : (Has xs x → Has (filter test xs) x) → (b : Bool) → test z ≡ b → Has (z ∷ xs) x → Has (cond b (z ∷ filter test xs) (filter test xs)) x
    by_test rest true is (inl same) = inl same
    by_test rest true is (inr later) = inr (rest later)
    by_test rest false is (inl same) = absurd (false≢true (sym is ∙ ap test same ∙ passes))
    by_test rest false is (inr later) = rest later

-- what passed it stands in the list, and passes
pub from_filter : {X : Type 0} (test : X → Bool) (xs : List X) (x : X) → Has (filter test xs) x → Has xs x × (test x ≡ true)
from_filter test [] x has = absurd has
from_filter test (z ∷ xs) x has = by_test (λ later. from_filter test xs x later) (test z) refl has
  where
    by_test : (Has (filter test xs) x → Has xs x × (test x ≡ true)) → (b : Bool) → test z ≡ b → Has (cond b (z ∷ filter test xs) (filter test xs)) x → Has (z ∷ xs) x × (test x ≡ true)
    by_test rest true is (inl same) = (inl same, ap test (sym same) ∙ is)
    by_test rest true is (inr later) = (inr (rest later).0, (rest later).1)
    by_test rest false is later = (inr (rest later).0, (rest later).1)

-- at its place
pub has_place : {X : Type 0} (xs : List X) (x : X) → Has xs x → (k : ℕ) × (slice_get xs k ≡ Some x)
has_place [] x has = absurd has
has_place (z ∷ xs) x (inl same) = (zero, ap (λ w. Some w) same)
has_place (z ∷ xs) x (inr later) = let found = has_place xs x later in (suc found.0, found.1)

-- what stands at a place stands in the list
pub at_place : {X : Type 0} (xs : List X) (k : ℕ) (x : X) → slice_get xs k ≡ Some x → Has xs x
at_place [] k x is = absurd (none-some x is)
at_place (z ∷ xs) zero x is = inl (same_Some z x is)
at_place (z ∷ xs) (suc k) x is = inr (at_place xs k x is)

-- How often and where numbers stand in a list.
use Rattle.std.proofs.Common.{◌≡◌, ◌∙◌, inl, inr, ap, ℕ, zero, suc, ◌<◌, Some, List, [], ◌∷◌, take, slice_get, arith}
use Rattle.std.proofs.lemmas.Bool.{cases_eq}
use Rattle.std.proofs.lemmas.Option.{none-some, same_Some}
use Rattle.tso_model.specs.Axioms.{occurrences, place}
use Rattle.tso_model.proofs.Places.{place-here, place-later, occurrences-later}
pub use Rattle.tso_model.proofs.Places.{occurrences-cons, occurrences-other, occurrences-same, place-listed, place-past}

-- a number that occurs stands at its place
pub listed_at : (n : ℕ) (xs : List ℕ) → 0 < occurrences n xs → slice_get xs (place xs n) ≡ Some n
listed_at n [] listed = absurd (omega arith)
listed_at n (x ∷ xs) listed = elim (cases_eq x n) [
  | inl same ↦ ap (slice_get (x ∷ xs)) (place-here x xs n same) ∙ ap Some same
  | inr other ↦ ap (slice_get (x ∷ xs)) (place-later x xs n other) ∙ listed_at n xs (omega (arith, listed, occurrences-later n x xs other))
]

-- the number at a place occurs
pub occurs_at : (xs : List ℕ) (k n : ℕ) → slice_get xs k ≡ Some n → 0 < occurrences n xs
occurs_at [] k n at = absurd (none-some n at)
occurs_at (x ∷ xs) zero n at = omega (arith, occurrences-cons n x xs, occurrences-same n x (same_Some x n at))
occurs_at (x ∷ xs) (suc k) n at = omega (arith, occurrences-cons n x xs, occurs_at xs k n at)

-- a number at a place that stands before it too occurs twice
pub occurs_twice : (xs : List ℕ) (k n : ℕ) → slice_get xs k ≡ Some n → 0 < occurrences n (take k xs) → 1 < occurrences n xs
occurs_twice [] k n at earlier = absurd (none-some n at)
occurs_twice (x ∷ xs) zero n at earlier = absurd (omega arith)
occurs_twice (x ∷ xs) (suc k) n at earlier = elim (cases_eq x n) [
  | inl same ↦ omega (arith, occurrences-cons n x xs, occurrences-same n x same, occurs_at xs k n at)
  | inr other ↦ omega (arith, occurrences-cons n x xs, occurs_twice xs k n at (omega (arith, earlier, occurrences-later n x (take k xs) other)))
]

-- a number's place is the first place where it stands
pub place_at : (xs : List ℕ) (k n : ℕ) → slice_get xs k ≡ Some n → occurrences n (take k xs) ≡ 0 → place xs n ≡ k
place_at [] k n at none = absurd (none-some n at)
place_at (x ∷ xs) zero n at none = place-here x xs n (same_Some x n at)
place_at (x ∷ xs) (suc k) n at none = elim (cases_eq x n) [
  | inl same ↦ absurd (omega (arith, none, occurrences-cons n x (take k xs), occurrences-same n x same))
  | inr other ↦ omega (arith, place-later x xs n other, place_at xs k n at (omega (arith, none, occurrences-later n x (take k xs) other)))
]

-- a number that occurs once stands at its place alone
pub place_once : (xs : List ℕ) (k n : ℕ) → occurrences n xs ≡ 1 → slice_get xs k ≡ Some n → place xs n ≡ k
place_once xs k n once at = place_at xs k n at (elim (cases_eq (occurrences n (take k xs)) 0) [
  | inl none ↦ none
  | inr some ↦ absurd (omega (arith, once, occurs_twice xs k n at (omega (arith, some))))
])

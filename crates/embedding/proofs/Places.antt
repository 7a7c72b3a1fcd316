-- Occurrences and places in lists that are put together, and from which an element is removed.
use Rattle.std.proofs.Common.{◌≡◌, ◌≢◌, ◌∙◌, ◌⊎◌, inl, inr, sym, ap, refl, ℕ, zero, suc, ◌+◌, ◌<◌, ◌≤◌, true, Some, List, [], ◌∷◌, ◌++◌, length, slice_get, eqb, arith}
use Rattle.std.specs.List.{remove}
use Rattle.std.proofs.lemmas.Bool.{cases_eq, cases_lt, eq-eqb}
use Rattle.tso_model.specs.Axioms.{occurrences, place, IsUpTo}
use Rattle.tso_model.proofs.Places.{place-here, place-later, occurrences-later, occurrences-other, occurrences-same}
pub use Rattle.tso_model.proofs.Places.{occurrences-append, occurrences-cons, place-listed, place-past}

pub occurrences-one : (n : ℕ) → occurrences n (n ∷ []) ≡ 1
occurrences-one n = let test : eqb n n ≡ true = eq-eqb n n refl in rw test

-- a number that occurs in the list is its only element
pub occurs-one : (n x : ℕ) → 0 < occurrences n (x ∷ []) → x ≡ n
occurs-one n x listed = elim (cases_eq x n) [ inl same ↦ same | inr other ↦ absurd (omega (arith, occurrences-other n x other)) ]

-- a number that is listed before stands no later than one that isn't
pub listed_up_to : (done later : List ℕ) (u n : ℕ) → 0 < occurrences u done → occurrences n done ≡ 0 → IsUpTo (done ++ later) u n
listed_up_to done later u n listed none =
    let first = place-listed u done later listed in
    omega (arith, first.0, first.1, place-past n done later none)

-- a number that stands no later than the next one of the order is that one, or is listed before
pub up_to_next : (done later : List ℕ) (u n : ℕ) → occurrences n done ≡ 0 → IsUpTo (done ++ n ∷ later) u n → (u ≡ n) ⊎ (0 < occurrences u done)
up_to_next done later u n none up_to = elim (cases_lt 0 (occurrences u done)) [
  | inl listed ↦ inr listed
  | inr unlisted ↦
      let at_n : place (done ++ n ∷ later) n ≡ length done = omega (arith, place-past n done (n ∷ later) none, place-here n later n refl) in
      let at_u : place (done ++ n ∷ later) u ≡ length done + place (n ∷ later) u = place-past u done (n ∷ later) (omega arith) in
      elim (cases_eq n u) [
        | inl same ↦ inl (sym same)
        | inr other ↦ absurd (omega (arith, at_n, at_u, up_to, place-later n later u other))
      ]
]

-- the next number of the order, and the one after it
pub next_place : (done later : List ℕ) (n m : ℕ) → occurrences n done ≡ 0 → occurrences m done ≡ 0 → n ≢ m →
    place (done ++ n ∷ (m ∷ later)) m ≡ suc (place (done ++ n ∷ (m ∷ later)) n)
next_place done later n m none no_other other =
    omega (
      arith,
      place-past n done (n ∷ (m ∷ later)) none,
      place-past m done (n ∷ (m ∷ later)) no_other,
      place-here n (m ∷ later) n refl,
      place-later n (m ∷ later) m other,
      place-here m later m refl,
    )

-- an element that leaves a list
pub occurrences-remove : (n : ℕ) (xs : List ℕ) (k x : ℕ) → slice_get xs k ≡ Some x → occurrences n xs ≡ occurrences n (x ∷ []) + occurrences n (remove xs k)
occurrences-remove n [] k x read = absurd cc
occurrences-remove n (y ∷ xs) zero x read = let same : y ≡ x = cc in rw (sym same) (occurrences-cons n y xs)
occurrences-remove n (y ∷ xs) (suc k) x read =
    omega (arith, occurrences-cons n y xs, occurrences-cons n y (remove xs k), occurrences-remove n xs k x read)

-- a number that occurs has a place
pub listed_at : (n : ℕ) (xs : List ℕ) → 0 < occurrences n xs → (k : ℕ) × (slice_get xs k ≡ Some n)
listed_at n [] listed = absurd (omega arith)
listed_at n (x ∷ xs) listed = elim (cases_eq x n) [
  | inl same ↦ (0, ap Some same)
  | inr other ↦ let rest = listed_at n xs (omega (arith, listed, occurrences-later n x xs other)) in (suc rest.0, rest.1)
]

-- so many numbers from n on
abbrev pub numbers_from : ℕ → ℕ → List ℕ
numbers_from n zero = []
numbers_from n (suc k) = n ∷ numbers_from (suc n) k

pub numbers-before : (m n k : ℕ) → m < n → occurrences m (numbers_from n k) ≡ 0
numbers-before m n zero before = refl
numbers-before m n (suc k) before = occurrences-later m n (numbers_from (suc n) k) (λ same. omega (arith, same)) ∙ numbers-before m (suc n) k (omega arith)

pub numbers-past : (m n k : ℕ) → n + k ≤ m → occurrences m (numbers_from n k) ≡ 0
numbers-past m n zero past = refl
numbers-past m n (suc k) past = occurrences-later m n (numbers_from (suc n) k) (λ same. omega (arith, same)) ∙ numbers-past m (suc n) k (omega arith)

pub numbers-within : (m n k : ℕ) → n ≤ m → m < n + k → occurrences m (numbers_from n k) ≡ 1
numbers-within m n zero low high = absurd (omega arith)
numbers-within m n (suc k) low high = elim (cases_eq n m) [
  | inl same ↦ omega (arith, occurrences-cons m n (numbers_from (suc n) k), occurrences-same m n same, numbers-before m (suc n) k (omega (arith, same)))
  | inr other ↦ occurrences-later m n (numbers_from (suc n) k) other ∙ numbers-within m (suc n) k (omega arith) (omega arith)
]

-- Lemmas on the numbers of a range that pass a test, and on the first of them.
use Rattle.std.proofs.Common.{◌≡◌, ⊎_elim, ap, sym, subst, refl, ◌∙◌, ℕ, zero, suc, ◌+◌, ◌<◌, ◌≤◌, Bool, true, false, cond, [], ◌∷◌, ◌++◌, Some, None, arith, add-one}
use Rattle.std.specs.List.{filter, find, range_with_len}
use Rattle.std.proofs.lemmas.Bool.{cases_lt}
use Rattle.std.proofs.lemmas.List.Elements.{filter-append}

-- ---- one more number

range-more : (a n : ℕ) → range_with_len a (suc n) ≡ range_with_len a n ++ (a + n) ∷ []
range-more a zero = let same : a ≡ a + 0 = omega arith in ap (λ m. m ∷ []) same
range-more a (suc n) = let same : a + 1 + n ≡ a + suc n = omega arith in ap (λ xs. a ∷ xs) (range-more (a + 1) n ∙ ap (λ m. range_with_len (a + 1) n ++ m ∷ []) same)

pub numbers_more : (n : ℕ) → range_with_len 1 (n + 1) ≡ range_with_len 1 n ++ (n + 1) ∷ []
numbers_more n = let same : 1 + n ≡ n + 1 = omega arith in ap (range_with_len 1) (add-one n) ∙ range-more 1 n ∙ ap (λ m. range_with_len 1 n ++ m ∷ []) same

pub filter_more : (test : ℕ → Bool) (n : ℕ) → filter test (range_with_len 1 (n + 1)) ≡ filter test (range_with_len 1 n) ++ cond (test (n + 1)) ((n + 1) ∷ []) []
filter_more test n = ap (filter test) (numbers_more n) ∙ filter-append test (range_with_len 1 n) ((n + 1) ∷ [])

-- the same of places, from 0
pub places_more : (n : ℕ) → range_with_len 0 (n + 1) ≡ range_with_len 0 n ++ n ∷ []
places_more n = let same : 0 + n ≡ n = omega arith in ap (range_with_len 0) (add-one n) ∙ range-more 0 n ∙ ap (λ m. range_with_len 0 n ++ m ∷ []) same

pub filter_places_more : (test : ℕ → Bool) (n : ℕ) → filter test (range_with_len 0 (n + 1)) ≡ filter test (range_with_len 0 n) ++ cond (test n) (n ∷ []) []
filter_places_more test n = ap (filter test) (places_more n) ∙ filter-append test (range_with_len 0 n) (n ∷ [])

-- ---- the first that passes

-- none of these numbers passes
abbrev pub FailsUpTo : (ℕ → Bool) → ℕ → Type 0
FailsUpTo test last = (j : ℕ) → 0 < j → j ≤ last → test j ≡ false

pub fails-more : (test : ℕ → Bool) (m : ℕ) → FailsUpTo test m → test (m + 1) ≡ false → FailsUpTo test (m + 1)
fails-more test m before here j above within =
    ⊎_elim (λ earlier. before j above (omega arith)) (λ last. let same : m + 1 ≡ j = omega arith in subst (λ i. test i ≡ false) same here) (cases_lt j (m + 1))

first : (test : ℕ → Bool) (a n k : ℕ) → a ≤ k → k < a + n → ((j : ℕ) → a ≤ j → j < k → test j ≡ false) → test k ≡ true → find test (range_with_len a n) ≡ Some k
first test a zero k from within fails passes = absurd (omega arith)
first test a (suc n) k from within fails passes =
    ⊎_elim
    (λ later. rw (fails a (omega arith) later) (first test (a + 1) n k (omega arith) (omega arith) (λ j above below. fails j (omega arith) below) passes))
    (λ here. let same : k ≡ a = omega arith in rw (subst (λ i. test i ≡ true) same passes) (ap Some (sym same)))
    (cases_lt a k)

none : (test : ℕ → Bool) (a n : ℕ) → ((j : ℕ) → a ≤ j → j < a + n → test j ≡ false) → find test (range_with_len a n) ≡ None
none test a zero fails = refl
none test a (suc n) fails = rw (fails a (omega arith) (omega arith)) (none test (a + 1) n (λ j above below. fails j (omega arith) (omega arith)))

-- the first that passes, where none did before
pub found-next : (test : ℕ → Bool) (m n : ℕ) → FailsUpTo test m → test (m + 1) ≡ true → m < n → find test (range_with_len 1 n) ≡ Some (m + 1)
found-next test m n before passes within = first test 1 n (m + 1) (omega arith) (omega arith) (λ j above below. before j (omega arith) (omega arith)) passes

pub found-none : (test : ℕ → Bool) (n : ℕ) → FailsUpTo test n → find test (range_with_len 1 n) ≡ None
found-none test n fails = none test 1 n (λ j above below. fails j (omega arith) (omega arith))

-- what is found passes, and nothing before it does
abbrev IsFirst : (ℕ → Bool) → ℕ → ℕ → ℕ → Type 0
IsFirst test a n k = (test k ≡ true) × (a ≤ k) × (k < a + n) × ((j : ℕ) → a ≤ j → j < k → test j ≡ false)

found-is : (test : ℕ → Bool) (a n k : ℕ) → find test (range_with_len a n) ≡ Some k → IsFirst test a n k
found-is test a zero k found = absurd cc
found-is test a (suc n) k found = by_test (found-is test (a + 1) n k) (test a) refl found
  where
    by_test : (find test (range_with_len (a + 1) n) ≡ Some k → IsFirst test (a + 1) n k) → (b : Bool) → test a ≡ b → cond b (Some a) (find test (range_with_len (a + 1) n)) ≡ Some k → IsFirst test a (suc n) k
    by_test rest true passes here = let same : a ≡ k = cc in (subst (λ i. test i ≡ true) same passes, omega arith, omega arith, λ j above below. absurd (omega arith))
    by_test rest false fails here =
        let later = rest here in (
          later.0,
          omega (arith, later.1),
          omega (arith, later.2),
          λ j above below. ⊎_elim (λ past. later.3 j (omega arith) below) (λ at. let same : a ≡ j = omega arith in subst (λ i. test i ≡ false) same fails) (cases_lt a j),
        )

pub found-passes : (test : ℕ → Bool) (n k : ℕ) → find test (range_with_len 1 n) ≡ Some k → (test k ≡ true) × (0 < k) × ((j : ℕ) → 0 < j → j < k → test j ≡ false)
found-passes test n k found = let is = found-is test 1 n k found in (is.0, omega (arith, is.1), λ j above below. is.3 j (omega arith) below)

-- where none is found, none passes
none-fails : (test : ℕ → Bool) (a n : ℕ) → find test (range_with_len a n) ≡ None → (j : ℕ) → a ≤ j → j < a + n → test j ≡ false
none-fails test a zero found j above below = absurd (omega arith)
none-fails test a (suc n) found j above below = by_test (λ here. none-fails test (a + 1) n here j) (test a) refl found
  where
    by_test : (find test (range_with_len (a + 1) n) ≡ None → a + 1 ≤ j → j < a + 1 + n → test j ≡ false) → (b : Bool) → test a ≡ b → cond b (Some a) (find test (range_with_len (a + 1) n)) ≡ None → test j ≡ false
    by_test rest true passes here = absurd cc
    by_test rest false fails here = ⊎_elim (λ past. rest here (omega arith) (omega arith)) (λ at. let same : a ≡ j = omega arith in subst (λ i. test i ≡ false) same fails) (cases_lt a j)

pub missed-fails : (test : ℕ → Bool) (n : ℕ) → find test (range_with_len 1 n) ≡ None → FailsUpTo test n
missed-fails test n found j above within = none-fails test 1 n found j (omega arith) (omega arith)

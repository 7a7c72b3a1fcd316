-- Numbers with one left out: n stands for itself below x, and for the next number from x on.
use Rattle.std.proofs.Common.{◌≡◌, ◌≢◌, ◌⊎◌, ℕ, zero, suc, ◌<◌, ◌≤◌, inl, inr, ap, refl, arith}
use Rattle.std.proofs.lemmas.Bool.{cases_lt, cases_order}

-- n or the next number
skipped : (x n : ℕ) → (n < x) ⊎ (x ≤ n) → ℕ
skipped x n (inl below) = n
skipped x n (inr above) = suc n

-- which number n stands for
pub skip : ℕ → ℕ → ℕ
skip x n = skipped x n (cases_lt n x)

-- n or the next number, as n is below x
pub skip-cases : (x n : ℕ) → ((n < x) × (skip x n ≡ n)) ⊎ ((x ≤ n) × (skip x n ≡ suc n))
unfolding skip skipped
skip-cases x n = by_cases (cases_lt n x)
  where
    by_cases : (side : (n < x) ⊎ (x ≤ n)) → ((n < x) × (skipped x n side ≡ n)) ⊎ ((x ≤ n) × (skipped x n side ≡ suc n))
    by_cases (inl below) = inl (below, refl)
    by_cases (inr above) = inr (above, refl)

-- below x, and from x on
pub skip-below : (x n : ℕ) → n < x → skip x n ≡ n
skip-below x n below = elim (skip-cases x n) [ inl is ↦ is.1 | inr is ↦ absurd (let above = is.0 in omega (arith, above, below)) ]

-- and from x on
pub skip-above : (x n : ℕ) → x ≤ n → skip x n ≡ suc n
skip-above x n above = elim (skip-cases x n) [ inl is ↦ absurd (let below = is.0 in omega (arith, above, below)) | inr is ↦ is.1 ]

-- none stands for x
pub skip-never : (x n : ℕ) → skip x n ≢ x
skip-never x n same = elim (skip-cases x n) [
  | inl is ↦ (let below = is.0 in let one = is.1 in omega (arith, below, one, same))
  | inr is ↦ (let above = is.0 in let one = is.1 in omega (arith, above, one, same))
]

-- they keep their order
pub skip-less : (x m n : ℕ) → m < n → skip x m < skip x n
skip-less x m n less = elim (skip-cases x m) [
  | inl first ↦ elim (skip-cases x n) [
    | inl second ↦ (let p = first.1 in let q = second.1 in omega (arith, less, p, q))
    | inr second ↦ (let p = first.1 in let q = second.1 in omega (arith, less, p, q))
  ]
  | inr first ↦ elim (skip-cases x n) [
    | inl second ↦ absurd (let p = first.0 in let q = second.0 in omega (arith, less, p, q))
    | inr second ↦ (let p = first.1 in let q = second.1 in omega (arith, less, p, q))
  ]
]

-- and the other way round
pub skip-less_back : (x m n : ℕ) → skip x m < skip x n → m < n
skip-less_back x m n less = elim (cases_order m n) [
  | inl same ↦ absurd (let is : skip x m ≡ skip x n = ap (skip x) same in omega (arith, less, is))
  | inr (inl below) ↦ below
  | inr (inr above) ↦ absurd (let more = skip-less x n m above in omega (arith, less, more))
]

-- no two stand for one
pub skip-once : (x m n : ℕ) → skip x m ≡ skip x n → m ≡ n
skip-once x m n same = elim (cases_order m n) [
  | inl is ↦ is
  | inr (inl below) ↦ absurd (let less = skip-less x m n below in omega (arith, less, same))
  | inr (inr above) ↦ absurd (let more = skip-less x n m above in omega (arith, more, same))
]

-- one stands for each other number
pub skip-back : (x m : ℕ) → m ≢ x → (n : ℕ) × (skip x n ≡ m)
skip-back x zero other = (zero, skip-below x zero (omega (arith, other)))
skip-back x (suc k) other = elim (cases_lt (suc k) x) [
  | inl below ↦ (suc k, skip-below x (suc k) below)
  | inr above ↦ (k, skip-above x k (omega (arith, above, other)))
]

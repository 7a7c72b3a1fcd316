-- The least of the numbers that a test finds.
use Rattle.std.proofs.Common.{◌≡◌, ℕ, zero, suc, ◌<◌, ◌≤◌, Bool, true, false, refl, arith, inl, inr, ⊎_elim, ◌⊎◌}
use Rattle.std.proofs.lemmas.Bool.{cases_lt}

-- the least number below n at which the test passes
pub record IsLeast (test : ℕ → Bool) (n k : ℕ) : Type 0 where
  pub low : k < n
  pub passes : test k ≡ true
  pub before : (j : ℕ) → j < k → test j ≡ false

-- there is a least number, or none
pub least : (test : ℕ → Bool) (n : ℕ) → ((k : ℕ) × IsLeast test n k) ⊎ ((j : ℕ) → j < n → test j ≡ false)
least test zero = inr (λ j low. absurd (omega arith))
least test (suc n) =
    ⊎_elim
    (λ (found : (k : ℕ) × IsLeast test n k). inl (found.0, record { low = (let l = found.1.low in omega arith); passes = found.1.passes; before = found.1.before }))
    (λ (none : (j : ℕ) → j < n → test j ≡ false).
    ⊎_elim
    (λ (on : test n ≡ true). inl (n, record { low = omega arith; passes = on; before = none }))
    (λ (off : test n ≡ false). inr (λ j low. ⊎_elim (λ (less : j < n). none j less) (λ (at : n ≤ j). let same : j ≡ n = omega arith in rw same off) (cases_lt j n)))
    (cases_bool (test n)))
    (least test n)
  where
    cases_bool : (b : Bool) → (b ≡ true) ⊎ (b ≡ false)
    cases_bool true = inl refl
    cases_bool false = inr refl

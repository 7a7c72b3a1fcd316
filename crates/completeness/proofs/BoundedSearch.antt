-- Properties of all numbers with a decided property, or an answer of another kind.
use Rattle.std.proofs.Common.{◌⊎◌, inl, inr, ℕ, zero, suc, ◌<◌, sym, subst, arith}
use Rattle.std.proofs.lemmas.Bool.{cases_eq}
use Rattle.order_paths.proofs.Decisions.{Decision}

-- the first of two facts leads to another, and the second stays
pub first_to : {A B C : Type 0} → (A → B) → A ⊎ C → B ⊎ C
first_to to (inl a) = inl (to a)
first_to to (inr c) = inr c

-- all numbers below n have the property, or there is the answer
below_or : (P : ℕ → Type 0) (A : Type 0) → ((u : ℕ) → P u ⊎ A) → (n : ℕ) → ((u : ℕ) → u < n → P u) ⊎ A
below_or P A each zero = inl (λ u less. absurd (omega (arith, less)))
below_or P A each (suc n) = both (below_or P A each n) (each n)
  where
    both : ((u : ℕ) → u < n → P u) ⊎ A → P n ⊎ A → ((u : ℕ) → u < suc n → P u) ⊎ A
    both (inr a) here = inr a
    both (inl all) (inr a) = inr a
    both (inl all) (inl p) = inl (λ u less. elim (cases_eq u n) [
      | inl same ↦ subst P (sym same) p
      | inr other ↦ all u (omega (arith, less, other))
    ])

-- all numbers that have a decided property, which lie below n, have another too, or there is the answer
pub all_or : (Has P : ℕ → Type 0) (A : Type 0) → ((u : ℕ) → Decision (Has u)) → ((u : ℕ) → Has u → P u ⊎ A) → (n : ℕ) → ((u : ℕ) → Has u → u < n) →
    ((u : ℕ) → Has u → P u) ⊎ A
all_or Has P A decide each n below = first_to (λ all u has. all u (below u has) has) (below_or (λ u. Has u → P u) A (λ u. at u (decide u)) n)
  where
    at : (u : ℕ) → Decision (Has u) → (Has u → P u) ⊎ A
    at u (inl has) = first_to (λ p _. p) (each u has)
    at u (inr none) = inl (λ has. absurd (none has))

-- likewise of pairs of numbers
pub all_pairs_or : (Has P : ℕ → ℕ → Type 0) (A : Type 0) → ((u v : ℕ) → Decision (Has u v)) → ((u v : ℕ) → Has u v → P u v ⊎ A) → (n : ℕ) →
    ((u v : ℕ) → Has u v → (u < n) × (v < n)) → ((u v : ℕ) → Has u v → P u v) ⊎ A
all_pairs_or Has P A decide each n below =
    first_to (λ all u v has. all u (below u v has).0 v has) (below_or (λ u. (v : ℕ) → Has u v → P u v) A
    (λ u. all_or (Has u) (P u) A (decide u) (each u) n (λ v has. (below u v has).1)) n)

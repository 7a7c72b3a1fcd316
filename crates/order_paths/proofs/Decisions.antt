-- Facts that are decided, and how facts that are made of them are decided too.
use Rattle.std.proofs.Common.{◌≡◌, ℕ, zero, suc, ◌<◌, ◌≤◌, ◌⊎◌, inl, inr, Bool, true, false, IsTrue, IsFalse, refl, subst, arith}
use Rattle.std.proofs.lemmas.Bool.{cases_order, cases_lt, false≢true, true≢false}

-- the fact holds, or it doesn't
abbrev pub Decision : Type 0 → Type 0
Decision A = A ⊎ (A → ⊥)

-- a fact that holds exactly if a decided one does is decided
pub Decision-iff : {A B : Type 0} → (A → B) → (B → A) → Decision A → Decision B
Decision-iff to back (inl a) = inl (to a)
Decision-iff to back (inr none) = inr (λ b. none (back b))

-- two decided facts together are decided
pub Decision-both : {A B : Type 0} → Decision A → Decision B → Decision (A × B)
Decision-both (inl a) (inl b) = inl (a, b)
Decision-both (inl a) (inr none) = inr (λ p. none p.1)
Decision-both (inr none) b = inr (λ p. none p.0)

-- likewise of three to six facts
pub Decision-three : {A B C : Type 0} → Decision A → Decision B → Decision C → Decision (A × B × C)
Decision-three a b c = Decision-iff (λ p. (p.0, p.1.0, p.1.1)) (λ p. (p.0, (p.1, p.2))) (Decision-both a (Decision-both b c))

pub Decision-four : {A B C D : Type 0} → Decision A → Decision B → Decision C → Decision D → Decision (A × B × C × D)
Decision-four a b c d = Decision-iff (λ p. (p.0, p.1.0, p.1.1, p.1.2)) (λ p. (p.0, (p.1, p.2, p.3))) (Decision-both a (Decision-three b c d))

pub Decision-five : {A B C D E : Type 0} → Decision A → Decision B → Decision C → Decision D → Decision E → Decision (A × B × C × D × E)
Decision-five a b c d e = Decision-iff (λ p. (p.0, p.1.0, p.1.1, p.1.2, p.1.3)) (λ p. (p.0, (p.1, p.2, p.3, p.4))) (Decision-both a (Decision-four b c d e))

pub Decision-six : {A B C D E G : Type 0} → Decision A → Decision B → Decision C → Decision D → Decision E → Decision G → Decision (A × B × C × D × E × G)
Decision-six a b c d e g =
    Decision-iff (λ p. (p.0, p.1.0, p.1.1, p.1.2, p.1.3, p.1.4)) (λ p. (p.0, (p.1, p.2, p.3, p.4, p.5))) (Decision-both a (Decision-five b c d e g))

-- that one of two decided facts holds is decided
pub Decision-either : {A B : Type 0} → Decision A → Decision B → Decision (A ⊎ B)
Decision-either (inl a) b = inl (inl a)
Decision-either (inr no_a) (inl b) = inl (inr b)
Decision-either (inr no_a) (inr no_b) = inr (λ p. elim p [ inl a ↦ no_a a | inr b ↦ no_b b ])

-- that a decided fact doesn't hold is decided
pub Decision-not : {A : Type 0} → Decision A → Decision (A → ⊥)
Decision-not (inl a) = inr (λ none. none a)
Decision-not (inr none) = inl none

-- whether one number is below another is decided
pub Decision-lt : (m n : ℕ) → Decision (m < n)
Decision-lt m n = elim (cases_lt m n) [ inl h ↦ inl h | inr h ↦ inr (λ k. omega arith) ]

-- whether a test answers true is decided
pub Decision-IsTrue : (b : Bool) → Decision (IsTrue b)
Decision-IsTrue true = inl refl
Decision-IsTrue false = inr false≢true

-- whether a test answers false is decided
pub Decision-IsFalse : (b : Bool) → Decision (IsFalse b)
Decision-IsFalse true = inr true≢false
Decision-IsFalse false = inl refl

-- the answer of a decision, as a test
abbrev pub test_of : {A : Type 0} → Decision A → Bool
test_of (inl a) = true
test_of (inr none) = false

-- the test of a fact that holds answers true
pub test_of-holds : {A : Type 0} (d : Decision A) → A → IsTrue (test_of d)
test_of-holds (inl a) h = refl
test_of-holds (inr none) h = absurd (none h)

-- a fact whose test answers true holds
pub test_of-true : {A : Type 0} (d : Decision A) → IsTrue (test_of d) → A
test_of-true (inl a) h = a
test_of-true (inr none) h = absurd (false≢true h)

-- the number is the least with the property
abbrev pub IsFirst : (ℕ → Type 0) → ℕ → Type 0
IsFirst P k = P k × ((j : ℕ) → j < k → P j → ⊥)

-- two numbers, each of which is the least, are one
pub IsFirst-unique : (P : ℕ → Type 0) (j k : ℕ) → IsFirst P j → IsFirst P k → j ≡ k
IsFirst-unique P j k first other = elim (cases_order j k) [
  | inl e ↦ e
  | inr (inl h) ↦ absurd (other.1 j h first.0)
  | inr (inr h) ↦ absurd (first.1 k h other.0)
]

-- from the numbers below n to one number more
first_below-more : (P : ℕ → Type 0) (n : ℕ) → Decision (P n) →
    ((k : ℕ) × (k < n) × IsFirst P k) ⊎ ((k : ℕ) → k < n → P k → ⊥) →
    ((k : ℕ) × (k < suc n) × IsFirst P k) ⊎ ((k : ℕ) → k < suc n → P k → ⊥)
first_below-more P n here (inl found) = let h : found.0 < n = found.1 in inl (found.0, omega arith, found.2)
first_below-more P n (inl p) (inr none) = inl (n, omega arith, (p, none))
first_below-more P n (inr not_here) (inr none) = inr (λ k h p. elim (cases_order k n) [
  | inl e ↦ not_here (subst P e p)
  | inr (inl below) ↦ none k below p
  | inr (inr above) ↦ omega arith
])

-- A decided property has a least number below n, or none there.
pub first_below : (P : ℕ → Type 0) → ((k : ℕ) → Decision (P k)) → (n : ℕ) →
    ((k : ℕ) × (k < n) × IsFirst P k) ⊎ ((k : ℕ) → k < n → P k → ⊥)
first_below P decide zero = inr (λ k h p. omega arith)
first_below P decide (suc n) = first_below-more P n (decide n) (first_below P decide n)

-- A decided property that some number has, has a least one.
pub first_of_some : (P : ℕ → Type 0) → ((k : ℕ) → Decision (P k)) → (n : ℕ) → P n → (k : ℕ) × (k ≤ n) × IsFirst P k
first_of_some P decide n p = elim (first_below P decide (suc n)) [
  | inl found ↦ (let h : found.0 < suc n = found.1 in (found.0, omega arith, found.2))
  | inr none ↦ absurd (none n (omega arith) p)
]

-- Whether some number has a decided property is decided, where all that have it lie below n.
pub Decision-some : (P : ℕ → Type 0) → ((k : ℕ) → Decision (P k)) → (n : ℕ) → ((k : ℕ) → P k → k < n) → Decision ((k : ℕ) × P k)
Decision-some P decide n below = elim (first_below P decide n) [
  | inl found ↦ inl (found.0, found.2.0)
  | inr none ↦ inr (λ p. none p.0 (below p.0 p.1) p.1)
]

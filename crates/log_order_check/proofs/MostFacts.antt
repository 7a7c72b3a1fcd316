-- Greatest places, and one number more.
use Rattle.std.proofs.Common.{◌≡◌, ◌⊎◌, inl, inr, sym, subst, refl, ℕ, ◌≤◌, List, slice_index, max, arith}
use Rattle.std.proofs.lemmas.Bool.{cases_lt}
use Rattle.log_order_check.specs.Internal.Most.{IsMost}

pub most_none : (P : ℕ → Type 0) (places : List ℕ) → ((u : ℕ) → P u → ⊥) → IsMost P places 0
most_none P places none = record { most = λ u is. absurd (none u is); some = inl refl }

-- one property in place of another
pub most_same : (P Q : ℕ → Type 0) (places : List ℕ) (m : ℕ) → ((u : ℕ) → P u → Q u) → ((u : ℕ) → Q u → P u) → IsMost P places m → IsMost Q places m
most_same P Q places m to from is = record {
  most = λ u has. is.most u (from u has);
  some = elim is.some [ inl none ↦ inl none | inr found ↦ inr (found.0, to found.0 found.1, found.2) ];
}

-- with one number more
pub most_more : (P Q : ℕ → Type 0) (places : List ℕ) (m n place : ℕ) → place ≡ slice_index places n → ((u : ℕ) → P u → Q u) → Q n → ((u : ℕ) → Q u → P u ⊎ (u ≡ n)) →
    IsMost P places m → IsMost Q places (max m place)
most_more P Q places m n place here to last from is = record {
  most = λ u has. elim (from u has) [
    | inl before ↦ omega (arith, is.most u before)
    | inr same ↦ (let low : slice_index places u ≤ place = subst (λ v. slice_index places v ≤ place) (sym same) (omega (arith, here)) in omega (arith, low))
  ];
  some = elim (cases_lt m place) [
    | inl more ↦ inr (n, last, omega (arith, more, here))
    | inr most ↦ elim is.some [
      | inl none ↦ inl (omega (arith, most, none))
      | inr found ↦ inr (found.0, to found.0 found.1, omega (arith, most, found.2))
    ]
  ];
}

-- the number of the greatest place
pub most_last : (P : ℕ → Type 0) (places : List ℕ) (n place : ℕ) → place ≡ slice_index places n → P n → ((u : ℕ) → P u → slice_index places u ≤ place) → IsMost P places place
most_last P places n place here last all = record { most = all; some = inr (n, last, here) }

-- of two properties
pub most_either : (P Q R : ℕ → Type 0) (places : List ℕ) (m n : ℕ) → ((u : ℕ) → P u → R u) → ((u : ℕ) → Q u → R u) → ((u : ℕ) → R u → P u ⊎ Q u) →
    IsMost P places m → IsMost Q places n → IsMost R places (max m n)
most_either P Q R places m n first second from is_p is_q = record {
  most = λ u has. elim (from u has) [
    | inl p ↦ omega (arith, is_p.most u p)
    | inr q ↦ omega (arith, is_q.most u q)
  ];
  some = elim (cases_lt m n) [
    | inl less ↦ elim is_q.some [
      | inl none ↦ absurd (omega (arith, less, none))
      | inr found ↦ inr (found.0, second found.0 found.1, omega (arith, less, found.2))
    ]
    | inr most ↦ elim is_p.some [
      | inl none ↦ inl (omega (arith, most, none))
      | inr found ↦ inr (found.0, first found.0 found.1, omega (arith, most, found.2))
    ]
  ];
}

-- the greatest place lies within a bound exactly where all places do
pub most_within : (P : ℕ → Type 0) (places : List ℕ) (m bound : ℕ) → IsMost P places m → ((u : ℕ) → P u → slice_index places u ≤ bound) → m ≤ bound
most_within P places m bound is all = elim is.some [
  | inl none ↦ omega (arith, none)
  | inr found ↦ omega (arith, found.2, all found.0 found.1)
]

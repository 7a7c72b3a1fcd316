-- Lemmas on pairs that are kept as rows of bits.
use Rattle.std.proofs.Common.{◌≡◌, ◌⊎◌, ◌↔◌, inl, inr, ℕ, zero, suc, min, ◌-◌, ◌*◌, ◌/◌, ◌%◌, ◌^◌, ◌<◌, ◌≤◌, List, length, get_or, IsTrue, eqb, eq-eqb, refl, sym, subst, ◌∙◌, arith}
use Rattle.std.specs.Int.{bit_at, bit_not, trailing_zeros, w64}
use Rattle.std.specs.Prelude.{bit_and}
use Rattle.std.proofs.lemmas.Bool.{cases_eq, cases_lt, eqb-true}
use Rattle.std.proofs.lemmas.List.{get_or_past}
use Rattle.std.proofs.lemmas.Nat.{and_le_l, and_le_r}
use Rattle.std.proofs.lemmas.Nat.Bits.{bit_at_above, bit_at_and, bit_at-lt, shr_and_one, same_from_bits}
use Rattle.bitsets.specs.Rows.{HasBit}
use Rattle.bitsets.proofs.WordFacts.{HasBit-decided, HasBit-zero, HasBit-and, HasBit-not, HasBit-drop, drop_less, one_bit}
use Rattle.acyclic_traces.specs.Internal.Rows.{IsCoveredRow}
use Rattle.acyclic_traces.specs.Internal.Pairs.{HasPair, IsStrictOrder}

-- the test of a bit
pub bit_test : (word k : ℕ) → IsTrue (eqb (bit_and (word / 2 ^ k) 1) 1) ↔ HasBit word k
unfolding HasBit
bit_test word k = let same = shr_and_one word k in (λ t. sym same ∙ eqb-true _ 1 t, λ s. eq-eqb _ 1 (same ∙ s))

-- a word of 64 bits has no others
pub HasBit-low : (word k : ℕ) → word < 2 ^ 64 → HasBit word k → k < 64
unfolding HasBit
HasBit-low word k fits bit = elim (cases_lt k 64) [
  | inl low ↦ low
  | inr past ↦ absurd (let none : bit_at word k ≡ 0 = bit_at_above word 64 k fits past in omega arith)
]

-- the bit of a number
pub own_bit : (k : ℕ) → k < 64 → HasBit (1 * 2 ^ k % 2 ^ 64) k
own_bit k low =
    let place : k % 64 ≡ k = omega arith in
    subst (λ n. HasBit (1 * 2 ^ n % 2 ^ 64) n) place ((one_bit k k).1 refl).1

pub own_bit_only : (n k : ℕ) → n < 64 → HasBit (1 * 2 ^ n % 2 ^ 64) k → k ≡ n
own_bit_only n k low bit =
    let k_low : k < 64 = HasBit-low (1 * 2 ^ n % 2 ^ 64) k (omega arith) bit in
    let n_place : n % 64 ≡ n = omega arith in
    let k_place : k % 64 ≡ k = omega arith in
    (one_bit n k).0 (omega (arith, low, k_low), subst (λ m. HasBit (1 * 2 ^ m % 2 ^ 64) (k % 64)) (sym n_place) (subst (HasBit (1 * 2 ^ n % 2 ^ 64)) (sym k_place) bit))

pub some_bit : (k : ℕ) → k < 64 → 1 * 2 ^ k % 2 ^ 64 ≡ 0 → ⊥
some_bit k low none = HasBit-zero k (subst (λ w. HasBit w k) none (own_bit k low))

-- a word that has no bit that another lacks
pub covered : (a b k : ℕ) → a < 2 ^ 64 → b < 2 ^ 64 → bit_and a (bit_not w64 b) ≡ 0 → HasBit a k → HasBit b k
covered a b k fits b_fits none bit = elim (HasBit-decided b k) [
  | inl has ↦ has
  | inr lacks ↦ absurd (HasBit-zero k (subst (λ w. HasBit w k) none ((HasBit-and a (bit_not w64 b) k).1 (bit, (HasBit-not b k b_fits (HasBit-low a k fits bit)).1 lacks))))
]

-- a number past the table has no pairs
pub none_past : (rows : List ℕ) (u v : ℕ) → length rows ≤ u → HasPair rows u v → ⊥
none_past rows u v past has = HasBit-zero v (subst (λ w. HasBit w v) (get_or_past rows u 0 past) has)

-- each bit of a word is left, or this holds of it
abbrev pub Looked : ℕ → ℕ → (ℕ → Type 0) → Type 0
Looked word left Fact = (k : ℕ) → HasBit word k → HasBit left k ⊎ Fact k

-- at first all are left
pub looked_start : (word : ℕ) (Fact : ℕ → Type 0) → Looked word word Fact
looked_start word Fact k bit = inl bit

-- then all but the lowest of them
pub looked_more : (word left : ℕ) (Fact : ℕ → Type 0) → 0 < left → left < 2 ^ 64 → Fact (trailing_zeros w64 left) → Looked word left Fact →
    Looked word (bit_and left (left - 1)) Fact
looked_more word left Fact some fits is before k bit = elim (before k bit) [
  | inl there ↦ elim (cases_eq k (trailing_zeros w64 left)) [
    | inl same ↦ inr (subst Fact (sym same) is)
    | inr other ↦ inl ((HasBit-drop left k some fits).1 (other, there))
  ]
  | inr fact ↦ inr fact
]

-- and then all but those of which it holds too
pub looked_without : (word left other : ℕ) (Fact : ℕ → Type 0) → left < 2 ^ 64 → other < 2 ^ 64 → ((k : ℕ) → HasBit other k → Fact k) → Looked word left Fact →
    Looked word (bit_and left (bit_not w64 other)) Fact
looked_without word left other Fact fits other_fits is before k bit = elim (before k bit) [
  | inl there ↦ elim (HasBit-decided other k) [
    | inl has ↦ inr (is k has)
    | inr lacks ↦ inl ((HasBit-and left (bit_not w64 other) k).1 (there, (HasBit-not other k other_fits (HasBit-low left k fits there)).1 lacks))
  ]
  | inr fact ↦ inr fact
]

-- both make the word less
pub looked_less : (left other : ℕ) → 0 < left → bit_and (bit_and left (left - 1)) (bit_not w64 other) < left
looked_less left other some =
    let less : bit_and left (left - 1) < left = drop_less left some in
    let low : bit_and (bit_and left (left - 1)) (bit_not w64 other) ≤ bit_and left (left - 1) = and_le_l (bit_and left (left - 1)) (bit_not w64 other) in
    omega (arith, less, low)

-- at last none
pub looked_all : (word left : ℕ) (Fact : ℕ → Type 0) → left ≡ 0 → Looked word left Fact → (k : ℕ) → HasBit word k → Fact k
looked_all word left Fact none all k bit = elim (all k bit) [
  | inl there ↦ absurd (HasBit-zero k (subst (λ w. HasBit w k) none there))
  | inr fact ↦ fact
]

-- a word whose bits another has, which has one more, is less
pub subset_less : (a b k : ℕ) → ((i : ℕ) → HasBit a i → HasBit b i) → HasBit b k → (HasBit a k → ⊥) → a < b
unfolding HasBit
subset_less a b k within has lacks =
    let same : bit_and a b ≡ a = same_from_bits (bit_and a b) a each in
    let low : bit_and a b ≤ b = and_le_r a b in
    elim (cases_eq a b) [
      | inl e ↦ absurd (lacks (subst (λ n. bit_at n k ≡ 1) (sym e) has))
      | inr other ↦ omega (arith, same, low, other)
    ]
  where
    each : (i : ℕ) → bit_at (bit_and a b) i ≡ bit_at a i
    each i =
        let both : bit_at (bit_and a b) i ≡ min (bit_at a i) (bit_at b i) = bit_at_and a b i in
        let a_low : bit_at a i < 2 = bit_at-lt a i in
        elim (cases_eq (bit_at a i) 1) [
          | inl one ↦ (let other : bit_at b i ≡ 1 = within i one in omega (arith, both, one, other))
          | inr none ↦ omega (arith, both, a_low, none)
        ]

-- Rows that are all covered are a strict order: a row that covers a number of another is less as a number.
pub covered_strict : (rows : List ℕ) → ((u : ℕ) → IsCoveredRow rows u) → IsStrictOrder rows
covered_strict rows all u = ((all u).irreflexive, transitive (suc (get_or rows u 0)) u (omega arith))
  where
    transitive : (n u : ℕ) → get_or rows u 0 < n → (v w : ℕ) → HasPair rows u v → HasPair rows v w → HasPair rows u w
    transitive zero u low v w first second = absurd (omega (arith, low))
    transitive (suc n) u low v w first second =
        let cover = (all u).covered v first in
        cover.within w (elim cover.reaches [
          | inl same ↦ subst (λ x. HasPair rows x w) (sym same) second
          | inr on ↦ (let less : get_or rows cover.by 0 < get_or rows u 0 = subset_less (get_or rows cover.by 0) (get_or rows u 0) cover.by cover.within cover.pair (all cover.by).irreflexive in
              transitive n cover.by (omega (arith, less, low)) v w on second)
        ])

-- The numbers of a row, and of a row whose words are read or added one after another.
use Rattle.std.proofs.Common.{◌≡◌, ◌≢◌, ◌↔◌, inl, inr, ℕ, ◌+◌, ◌*◌, ◌/◌, ◌%◌, ◌^◌, ◌<◌, List, length, get_or, sym, subst, ◌∙◌, arith, ap, zero, suc, [], ◌∷◌, ◌++◌, refl, IsTrue, eqb, eq-eqb}
use Rattle.std.specs.Int.{bit_at, bit_not, w64}
use Rattle.std.specs.Prelude.{bit_or, bit_and}
use Rattle.std.proofs.lemmas.Bool.{cases_eq, cases_lt, eqb-true}
use Rattle.std.proofs.lemmas.Nat.Bits.{shr_and_one, bit_at_above, bit_at-suc, bit_at-pow_same, bit_at-pow_other}
use Rattle.std.proofs.lemmas.List.{get_or_past}
use Rattle.bitsets.specs.Rows.{HasBit, HasNumber}
use Rattle.bitsets.proofs.WordFacts.{HasBit-zero, HasBit-or, HasBit-and, HasBit-not}

-- a word of zeros after a row changes no word of it
pub same_word : (words : List ℕ) (j : ℕ) → get_or (words ++ 0 ∷ []) j 0 ≡ get_or words j 0
same_word [] zero = refl
same_word [] (suc j) = refl
same_word (w ∷ words) zero = refl
same_word (w ∷ words) (suc j) = same_word words j

-- a row has no number past its words
pub HasNumber-within : (row : List ℕ) (v : ℕ) → HasNumber row v → v / 64 < length row
HasNumber-within row v has = elim (cases_lt (v / 64) (length row)) [
  | inl low ↦ low
  | inr past ↦ absurd (HasBit-zero (v % 64) (subst (λ w. HasBit w (v % 64)) (get_or_past row (v / 64) 0 past) has))
]

-- the number's bit in its word
pub HasNumber-word : (row : List ℕ) (v j : ℕ) → v / 64 ≡ j → HasNumber row v ↔ HasBit (get_or row j 0) (v % 64)
HasNumber-word row v j at = (λ has. subst (λ i. HasBit (get_or row i 0) (v % 64)) at has, λ bit. subst (λ i. HasBit (get_or row i 0) (v % 64)) (sym at) bit)

-- a row without words has no number
pub HasNumber-none : (v : ℕ) → HasNumber [] v → ⊥
HasNumber-none v has = HasBit-zero (v % 64) has

-- a word without bits adds no number
pub HasNumber-extend : (row : List ℕ) (v : ℕ) → HasNumber (row ++ 0 ∷ []) v ↔ HasNumber row v
HasNumber-extend row v =
    (λ has. subst (λ w. HasBit w (v % 64)) (same_word row (v / 64)) has, λ has. subst (λ w. HasBit w (v % 64)) (sym (same_word row (v / 64))) has)

-- the test of a number's bit
pub number_bit : (row : List ℕ) (number word : ℕ) → word ≡ get_or row (number / 64) 0 → IsTrue (eqb (bit_and (word / 2 ^ (number % 64)) 1) 1) ↔ HasNumber row number
unfolding HasBit
number_bit row number word is =
    let same = shr_and_one word (number % 64) in
    let here : bit_at word (number % 64) ≡ bit_at (get_or row (number / 64) 0) (number % 64) = ap (λ w. bit_at w (number % 64)) is in
    (λ t. sym here ∙ sym same ∙ eqb-true _ 1 t, λ s. eq-eqb _ 1 (same ∙ here ∙ s))

-- the bit of a number in its word
pub word_number : (row : List ℕ) (j word v : ℕ) → v / 64 ≡ j → word ≡ get_or row j 0 → HasBit word (v % 64) ↔ HasNumber row v
word_number row j word v at is =
    let has = HasNumber-word row v j at in
    (λ bit. has.1 (subst (λ w. HasBit w (v % 64)) is bit), λ number. subst (λ w. HasBit w (v % 64)) (sym is) (has.0 number))

-- the numbers of two rows
pub both_number : (one two : List ℕ) (j a b v : ℕ) → v / 64 ≡ j → a ≡ get_or one j 0 → b ≡ get_or two j 0 → HasBit (bit_and a b) (v % 64) ↔ (HasNumber one v × HasNumber two v)
both_number one two j a b v at a_is b_is =
    let both = HasBit-and a b (v % 64) in
    let first = word_number one j a v at a_is in
    let second = word_number two j b v at b_is in
    (λ bit. (first.0 (both.0 bit).0, second.0 (both.0 bit).1), λ has. both.1 (first.1 has.0, second.1 has.1))

-- the numbers of one row that another hasn't
pub left_number : (one other : List ℕ) (j a c v : ℕ) → v / 64 ≡ j → a ≡ get_or one j 0 → c ≡ get_or other j 0 → c < 2 ^ 64 →
    HasBit (bit_and a (bit_not w64 c)) (v % 64) ↔ (HasNumber one v × (HasNumber other v → ⊥))
left_number one other j a c v at a_is c_is fits =
    let both = HasBit-and a (bit_not w64 c) (v % 64) in
    let not = HasBit-not c (v % 64) fits (omega arith) in
    let first = word_number one j a v at a_is in
    let second = word_number other j c v at c_is in (
      λ bit. (first.0 (both.0 bit).0, λ has. not.0 (both.0 bit).1 (second.1 has)),
      λ is. both.1 (first.1 is.0, not.1 (λ bit. is.1 (second.0 bit))),
    )

-- a number's bit in a word that is without another number
pub bit_without : (word less j number v : ℕ) (P : Type 0) → v / 64 ≡ j → ((k : ℕ) → k < 64 → HasBit less k ↔ (HasBit word k × ((64 * j + k) ≢ number))) → HasBit word (v % 64) ↔ P →
    HasBit less (v % 64) ↔ (P × (v ≢ number))
bit_without word less j number v P at bits is =
    let here = bits (v % 64) (omega arith) in
    let place : 64 * j + v % 64 ≡ v = omega arith in (
      λ bit. (is.0 (here.0 bit).0, subst (λ m. m ≢ number) place (here.0 bit).1),
      λ both. here.1 (is.1 both.0, subst (λ m. m ≢ number) (sym place) both.1),
    )

-- the numbers one below those of a row
pub below_number : (row : List ℕ) (j word v : ℕ) → v / 64 ≡ j → ((k : ℕ) → k < 64 → HasBit word k ↔ HasNumber row (64 * j + k + 1)) → HasBit word (v % 64) ↔ HasNumber row (suc v)
below_number row j word v at bits =
    let here = bits (v % 64) (omega arith) in
    let place : 64 * j + v % 64 + 1 ≡ suc v = omega arith in
    (λ bit. subst (HasNumber row) place (here.0 bit), λ has. here.1 (subst (HasNumber row) (sym place) has))

-- the bits of a word one place down, but for the last
below_bit : (row : List ℕ) (j word k : ℕ) → word ≡ get_or row j 0 → k < 64 → k ≢ 63 → HasBit (word / 2) k ↔ HasNumber row (64 * j + k + 1)
unfolding HasBit
below_bit row j word k is low other =
    let n : ℕ = 64 * j + k + 1 in
    let at : n / 64 ≡ j = omega arith in
    let place : n % 64 ≡ suc k = omega arith in
    let same : bit_at (get_or row (n / 64) 0) (n % 64) ≡ bit_at (word / 2) k =
    ap (λ i. bit_at (get_or row i 0) (n % 64)) at ∙ ap (bit_at (get_or row j 0)) place ∙ ap (λ w. bit_at w (suc k)) (sym is) ∙ bit_at-suc word k in
    (λ bit. same ∙ bit, λ has. sym same ∙ has)

-- with the first bit of the next word
pub below_next : (row : List ℕ) (j word k : ℕ) → word ≡ get_or row j 0 → k < 64 → HasNumber row (64 * (j + 1)) → HasBit (bit_or (word / 2) (2 ^ 63)) k ↔ HasNumber row (64 * j + k + 1)
unfolding HasBit
below_next row j word k is low next =
    let either = HasBit-or (word / 2) (2 ^ 63) k in
    elim (cases_eq k 63) [
      | inl e ↦ (let same : 64 * (j + 1) ≡ 64 * j + k + 1 = omega (arith, e) in (
        λ bit. subst (HasNumber row) same next,
        λ has. either.1 (inr (subst (λ i. bit_at (2 ^ 63) i ≡ 1) (sym e) (bit_at-pow_same 63))),
      ))
      | inr other ↦ (let below = below_bit row j word k is low other in (
        λ bit. elim (either.0 bit) [
          | inl one ↦ below.0 one
          | inr one ↦ absurd (let none : bit_at (2 ^ 63) k ≡ 0 = bit_at-pow_other 63 k other in let set : bit_at (2 ^ 63) k ≡ 1 = one in omega arith)
        ],
        λ has. either.1 (inl (below.1 has)),
      ))
    ]

pub below_last : (row : List ℕ) (j word k : ℕ) → word ≡ get_or row j 0 → word < 2 ^ 64 → k < 64 → (HasNumber row (64 * (j + 1)) → ⊥) → HasBit (word / 2) k ↔ HasNumber row (64 * j + k + 1)
unfolding HasBit
below_last row j word k is fits low none =
    elim (cases_eq k 63) [
      | inl e ↦ (let same : 64 * j + k + 1 ≡ 64 * (j + 1) = omega (arith, e) in (
        λ bit. absurd (let past : bit_at word 64 ≡ 0 = bit_at_above word 64 64 fits (omega arith) in
            let down : bit_at word 64 ≡ bit_at (word / 2) 63 = bit_at-suc word 63 in
            let set : bit_at (word / 2) 63 ≡ 1 = subst (λ i. bit_at (word / 2) i ≡ 1) e bit in
            omega arith),
        λ has. absurd (none (subst (HasNumber row) same has)),
      ))
      | inr other ↦ below_bit row j word k is low other
    ]

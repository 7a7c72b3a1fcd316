-- The words that a search of the events that aren't passed looks at.
use Rattle.std.proofs.Common.{◌≡◌, ◌↔◌, inl, inr, sym, subst, ℕ, suc, ◌+◌, ◌-◌, ◌*◌, ◌/◌, ◌%◌, ◌^◌, ◌<◌, ◌≤◌, List, get_or, slice_index, arith}
use Rattle.std.specs.Prelude.{bit_and}
use Rattle.std.specs.Int.{bit_not, trailing_zeros, w64}
use Rattle.std.proofs.lemmas.Bool.{cases_eq, cases_lt}
use Rattle.std.proofs.lemmas.Nat.{and_le_l}
use Rattle.bitsets.specs.Rows.{HasBit, HasNumber}
use Rattle.bitsets.proofs.WordFacts.{HasBit-and, HasBit-drop, HasBit-lowest, HasBit-not, HasBit-zero, kept_bit}
use Rattle.bitsets.proofs.RowFacts.{below_number, word_number}
use Rattle.order_check.specs.Internal.Left.{IsLeftIn}

-- the numbers of a word whose bits are set have places up to this one
abbrev pub BitsAreUpTo : List ℕ → ℕ → ℕ → ℕ → Type 0
BitsAreUpTo places j most word = (k : ℕ) → k < 64 → HasBit word k → slice_index places (64 * j + k) ≤ most

-- without its lowest bit, whose number has such a place, the same holds of the word
pub bits_dropped : (places : List ℕ) (j most rest : ℕ) → 0 < rest → rest < 2 ^ 64 → slice_index places (64 * j + trailing_zeros w64 rest) ≤ most →
    BitsAreUpTo places j most (bit_and rest (rest - 1)) → BitsAreUpTo places j most rest
bits_dropped places j most rest some fits low all k below bit = elim (cases_eq k (trailing_zeros w64 rest)) [
  | inl same ↦ subst (λ i. slice_index places (64 * j + i) ≤ most) (sym same) low
  | inr other ↦ all k below ((HasBit-drop rest k some fits).1 (other, bit))
]

pub bits_kept : (places : List ℕ) (j most rest : ℕ) → 0 < rest → rest < 2 ^ 64 → BitsAreUpTo places j most rest → BitsAreUpTo places j most (bit_and rest (rest - 1))
bits_kept places j most rest some fits all k below bit = all k below ((HasBit-drop rest k some fits).0 bit).1

-- the lowest bit's number is one of them
pub lowest_up_to : (places : List ℕ) (j most rest : ℕ) → 0 < rest → rest < 2 ^ 64 → BitsAreUpTo places j most rest → slice_index places (64 * j + trailing_zeros w64 rest) ≤ most
lowest_up_to places j most rest some fits all = let low = HasBit-lowest rest some fits in all (trailing_zeros w64 rest) low.0 low.1

pub no_bits : (places : List ℕ) (j most rest : ℕ) → rest ≡ 0 → BitsAreUpTo places j most rest
no_bits places j most rest none k below bit = absurd (HasBit-zero k (subst (λ w. HasBit w k) none bit))

-- the bits of the word of a set's numbers that are left
pub left_bit : (left one two other : List ℕ) (n j a b c d e u : ℕ) → u / 64 ≡ j → a ≡ get_or left j 0 → b ≡ get_or one j 0 → c ≡ get_or two j 0 → d ≡ get_or other j 0 →
    d < 2 ^ 64 → e < 2 ^ 64 → ((k : ℕ) → k < 64 → HasBit e k ↔ (n < 64 * j + k)) →
    HasBit (bit_and (bit_and (bit_and (bit_and a b) c) (bit_not w64 d)) (bit_not w64 e)) (u % 64) ↔ IsLeftIn left one two other n u
left_bit left one two other n j a b c d e u at a_is b_is c_is d_is d_fits e_fits above =
    let k : ℕ = u % 64 in
    let low : u % 64 < 64 = omega arith in
    let place : 64 * j + u % 64 ≡ u = omega arith in
    let outer = HasBit-and (bit_and (bit_and (bit_and a b) c) (bit_not w64 d)) (bit_not w64 e) (u % 64) in
    let middle = HasBit-and (bit_and (bit_and a b) c) (bit_not w64 d) (u % 64) in
    let inner = HasBit-and (bit_and a b) c (u % 64) in
    let first = HasBit-and a b (u % 64) in
    let not_d = HasBit-not d (u % 64) d_fits low in
    let not_e = HasBit-not e (u % 64) e_fits low in
    let in_left = word_number left j a u at a_is in
    let in_one = word_number one j b u at b_is in
    let in_two = word_number two j c u at c_is in
    let in_other = word_number other j d u at d_is in
    let over = above (u % 64) low in (
      λ bit. (
          let both = outer.0 bit in
          let more = middle.0 both.0 in
          let three = inner.0 more.0 in
          let two_bits = first.0 three.0 in (
            elim (cases_lt n u) [
              | inl past ↦ absurd (not_e.0 both.1 (over.1 (subst (λ m. n < m) (sym place) past)))
              | inr within ↦ within
            ],
            in_left.0 two_bits.0,
            in_one.0 two_bits.1,
            in_two.0 three.1,
            λ has. not_d.0 more.1 (in_other.1 has),
          )),
      λ is. outer.1 (
        middle.1 (inner.1 (first.1 (in_left.1 is.1, in_one.1 is.2), in_two.1 is.3), not_d.1 (λ bit. is.4 (in_other.0 bit))),
        not_e.1 (λ bit. (let past : n < u = subst (λ m. n < m) place (over.0 bit) in omega (arith, past, is.0))),
      ),
    )

-- ---- word by word

-- the numbers of one word
pub word_up_to : (places left one two other : List ℕ) (n j most word : ℕ) → ((u : ℕ) → u / 64 ≡ j → HasBit word (u % 64) ↔ IsLeftIn left one two other n u) → BitsAreUpTo places j most word →
    (u : ℕ) → u / 64 ≡ j → IsLeftIn left one two other n u → slice_index places u ≤ most
word_up_to places left one two other n j most word bits all u at is =
    let number : 64 * j + u % 64 ≡ u = omega arith in
    subst (λ m. slice_index places m ≤ most) number (all (u % 64) (omega arith) ((bits u at).1 is))

-- the words up to the next one
pub words_more : (places left one two other : List ℕ) (n j most word : ℕ) → ((u : ℕ) → u / 64 ≡ j → HasBit word (u % 64) ↔ IsLeftIn left one two other n u) → BitsAreUpTo places j most word →
    ((u : ℕ) → u / 64 < j → IsLeftIn left one two other n u → slice_index places u ≤ most) → (u : ℕ) → u / 64 < j + 1 → IsLeftIn left one two other n u → slice_index places u ≤ most
words_more places left one two other n j most word bits all before u below is = elim (cases_lt (u / 64) j) [
  | inl earlier ↦ before u earlier is
  | inr late ↦ word_up_to places left one two other n j most word bits all u (omega arith) is
]

-- one word of a set whose numbers all have such places
pub word_of_all : (places left one two other : List ℕ) (n j most word : ℕ) → ((u : ℕ) → u / 64 ≡ j → HasBit word (u % 64) ↔ IsLeftIn left one two other n u) →
    ((u : ℕ) → IsLeftIn left one two other n u → slice_index places u ≤ most) → BitsAreUpTo places j most word
word_of_all places left one two other n j most word bits all k below bit =
    let u : ℕ = 64 * j + k in
    let at : (64 * j + k) / 64 ≡ j = omega arith in
    let number : (64 * j + k) % 64 ≡ k = omega arith in
    all u ((bits u at).0 (subst (HasBit word) (sym number) bit))

-- ---- swaps whose load isn't left and whose store is

-- the swap of load l is open
abbrev pub IsOpen : List ℕ → List ℕ → ℕ → Type 0
IsOpen swaps left l = HasNumber swaps l × HasNumber left (suc l) × (HasNumber left l → ⊥)

module _ (swaps left : List ℕ) (j a b c : ℕ) (a_is : a ≡ get_or swaps j 0) (b_is : (k : ℕ) → k < 64 → HasBit b k ↔ HasNumber left (64 * j + k + 1)) (c_is : c ≡ get_or left j 0) (fits : c < 2 ^ 64) where
  open_bit : (l : ℕ) → l / 64 ≡ j → HasBit (bit_and (bit_and a b) (bit_not w64 c)) (l % 64) ↔ IsOpen swaps left l
  open_bit l at = kept_bit (HasNumber swaps l) (HasNumber left (suc l)) (HasNumber left l) a b c (l % 64) fits (omega arith)
      (word_number swaps j a l at a_is) (below_number left j b l at b_is) (word_number left j c l at c_is)

  pub open_found : a < 2 ^ 64 → 0 < bit_and (bit_and a b) (bit_not w64 c) → (l : ℕ) × IsOpen swaps left l
  open_found a_fits some =
      let word : ℕ = bit_and (bit_and a b) (bit_not w64 c) in
      let low = HasBit-lowest word some (omega (arith, a_fits, and_le_l (bit_and a b) (bit_not w64 c), and_le_l a b)) in
      let bound : trailing_zeros w64 word < 64 = low.0 in
      let l : ℕ = 64 * j + trailing_zeros w64 word in
      let at : l / 64 ≡ j = omega arith in
      let place : l % 64 ≡ trailing_zeros w64 word = omega arith in
      (l, (open_bit l at).0 (subst (HasBit word) (sym place) low.1))

  pub none_open : bit_and (bit_and a b) (bit_not w64 c) ≡ 0 → ((l : ℕ) → l / 64 < j → IsOpen swaps left l → ⊥) → (l : ℕ) → l / 64 < j + 1 → IsOpen swaps left l → ⊥
  none_open none before l below is = elim (cases_lt (l / 64) j) [
    | inl earlier ↦ before l earlier is
    | inr late ↦ (let at : l / 64 ≡ j = omega arith in HasBit-zero (l % 64) (subst (λ w. HasBit w (l % 64)) none ((open_bit l at).1 is)))
  ]

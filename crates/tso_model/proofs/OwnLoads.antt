-- The loads that read past their own store, in rows of bits.
use Rattle.std.proofs.Common.{◌≡◌, ◌↔◌, ℕ, ◌+◌, ◌*◌, ◌/◌, ◌%◌, ◌^◌, ◌<◌, List, get_or, sym, subst, arith}
use Rattle.std.specs.Int.{trailing_zeros, w64}
use Rattle.std.specs.Prelude.{bit_and}
use Rattle.bitsets.specs.Rows.{HasBit, HasNumber}
use Rattle.bitsets.proofs.WordFacts.{HasBit-and, HasBit-lowest}
use Rattle.bitsets.proofs.RowFacts.{word_number}

-- ---- numbers that rows share

-- the number is above u, and in each of the rows
abbrev pub IsSharedAbove : List ℕ → List ℕ → List ℕ → ℕ → ℕ → Type 0
IsSharedAbove first second third u l = (u < l) × HasNumber first l × HasNumber second l × HasNumber third l

pub shared_bit : (first second third : List ℕ) (u j a b c d : ℕ) → a ≡ get_or first j 0 → b ≡ get_or second j 0 → c ≡ get_or third j 0 →
    ((k : ℕ) → k < 64 → HasBit d k ↔ (u < 64 * j + k)) → (l : ℕ) → l / 64 ≡ j →
    HasBit (bit_and (bit_and (bit_and a b) c) d) (l % 64) ↔ IsSharedAbove first second third u l
shared_bit first second third u j a b c d a_is b_is c_is above l at =
    let k : ℕ = l % 64 in
    let place : 64 * j + k ≡ l = omega (arith, at) in
    let over = above k (omega arith) in
    let one = word_number first j a l at a_is in
    let two = word_number second j b l at b_is in
    let three = word_number third j c l at c_is in
    let all = HasBit-and (bit_and (bit_and a b) c) d k in
    let rows = HasBit-and (bit_and a b) c k in
    let pair = HasBit-and a b k in (
      λ bit. (let parts = all.0 bit in let left = rows.0 parts.0 in let both = pair.0 left.0 in
          (omega (arith, over.0 parts.1, place), one.0 both.0, two.0 both.1, three.0 left.1)),
      λ shared. all.1 (rows.1 (pair.1 (one.1 shared.1, two.1 shared.2), three.1 shared.3), over.1 (omega (arith, shared.0, place))),
    )

-- a word that isn't 0 has a number
pub shared_word : (first second third : List ℕ) (u j word : ℕ) → word < 2 ^ 64 → 0 < word →
    ((l : ℕ) → l / 64 ≡ j → HasBit word (l % 64) ↔ IsSharedAbove first second third u l) →
    (l : ℕ) × (u < l) × HasNumber first l × HasNumber second l × HasNumber third l
shared_word first second third u j word fits some bits =
    let low = HasBit-lowest word some fits in
    let k : ℕ = trailing_zeros w64 word in
    let bound : k < 64 = low.0 in
    let at : (64 * j + k) / 64 ≡ j = omega (arith, bound) in
    let m : (64 * j + k) % 64 ≡ k = omega (arith, bound) in
    let shared = (bits (64 * j + k) at).0 (subst (HasBit word) (sym m) low.1) in
    (64 * j + k, shared.0, shared.1, shared.2, shared.3)

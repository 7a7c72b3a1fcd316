-- The columns that two rows share, word by word.
use Rattle.std.proofs.Common.{◌≡◌, inl, inr, ℕ, ◌+◌, ◌*◌, ◌/◌, ◌%◌, ◌^◌, ◌<◌, ◌≤◌, List, get_or, sym, subst, arith}
use Rattle.std.specs.Int.{trailing_zeros, w64}
use Rattle.std.specs.Prelude.{bit_and}
use Rattle.std.proofs.lemmas.Bool.{cases_lt}
use Rattle.bitsets.specs.Rows.{HasBit}
use Rattle.bitsets.specs.Tables.{IsSet, IsFirstShared}
use Rattle.bitsets.proofs.WordFacts.{HasBit-zero, HasBit-and, HasBit-lowest}
use Rattle.bitsets.proofs.TableFacts.{IsSet-word}

-- The first bit that two words share is the first column that their rows share, if none before the words is.
pub IsFirstShared-word : (table : List ℕ) (x : ℕ) (other : List ℕ) (row width j : ℕ) → j < width →
    ((y : ℕ) → y / 64 < j → IsSet table width x y → IsSet other width row y → ⊥) →
    0 < bit_and (get_or table (x * width + j) 0) (get_or other (row * width + j) 0) → bit_and (get_or table (x * width + j) 0) (get_or other (row * width + j) 0) < 2 ^ 64 →
    IsFirstShared table x other row width (64 * j + trailing_zeros w64 (bit_and (get_or table (x * width + j) 0) (get_or other (row * width + j) 0)))
IsFirstShared-word table x other row width j hj before some fits =
    let a : ℕ = get_or table (x * width + j) 0 in
    let b : ℕ = get_or other (row * width + j) 0 in
    let low = HasBit-lowest (bit_and a b) some fits in
    let bound : trailing_zeros w64 (bit_and a b) < 64 = low.0 in
    let at : (64 * j + trailing_zeros w64 (bit_and a b)) / 64 ≡ j = omega arith in
    let m : (64 * j + trailing_zeros w64 (bit_and a b)) % 64 ≡ trailing_zeros w64 (bit_and a b) = omega arith in
    let both = (HasBit-and a b (trailing_zeros w64 (bit_and a b))).0 low.1 in
    record {
      column = omega arith;
      first = (IsSet-word table width x j (64 * j + trailing_zeros w64 (bit_and a b)) at).1 (subst (λ n. HasBit a n) (sym m) both.0);
      second = (IsSet-word other width row j (64 * j + trailing_zeros w64 (bit_and a b)) at).1 (subst (λ n. HasBit b n) (sym m) both.1);
      least = λ z less s t. elim (cases_lt (z / 64) j) [
        | inl earlier ↦ before z earlier s t
        | inr late ↦ (let here : z / 64 ≡ j = omega arith in
            low.2 (z % 64) (omega arith) ((HasBit-and a b (z % 64)).1 ((IsSet-word table width x j z here).0 s, (IsSet-word other width row j z here).0 t)))
      ];
    }

-- words that share no bit are passed
pub none_shared_more : (table : List ℕ) (x : ℕ) (other : List ℕ) (row width j : ℕ) → ((y : ℕ) → y / 64 < j → IsSet table width x y → IsSet other width row y → ⊥) →
    bit_and (get_or table (x * width + j) 0) (get_or other (row * width + j) 0) ≡ 0 → (y : ℕ) → y / 64 < j + 1 → IsSet table width x y → IsSet other width row y → ⊥
none_shared_more table x other row width j before none y h s t = elim (cases_lt (y / 64) j) [
  | inl earlier ↦ before y earlier s t
  | inr late ↦ (let here : y / 64 ≡ j = omega arith in
      HasBit-zero (y % 64) (subst (λ n. HasBit n (y % 64)) none
      ((HasBit-and (get_or table (x * width + j) 0) (get_or other (row * width + j) 0) (y % 64)).1 ((IsSet-word table width x j y here).0 s, (IsSet-word other width row j y here).0 t))))
]

-- a word that is 0 has no bit of its row
pub used_more : (table : List ℕ) (row width j low high : ℕ) → ((y : ℕ) → y / 64 < j → IsSet table width row y → (low ≤ y / 64) × (y / 64 < high)) →
    get_or table (row * width + j) 0 ≡ 0 → (y : ℕ) → y / 64 < j + 1 → IsSet table width row y → (low ≤ y / 64) × (y / 64 < high)
used_more table row width j low high before none y h s = elim (cases_lt (y / 64) j) [
  | inl earlier ↦ before y earlier s
  | inr late ↦ absurd (HasBit-zero (y % 64) (subst (λ n. HasBit n (y % 64)) none ((IsSet-word table width row j y (omega (arith, h, late))).0 s)))
]

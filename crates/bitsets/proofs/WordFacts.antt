-- The bits of a word.
use Rattle.std.proofs.Common.{◌≡◌, ◌≢◌, ◌⊎◌, ◌↔◌, inl, inr, ℕ, ◌+◌, ◌-◌, ◌*◌, ◌/◌, ◌%◌, ◌^◌, ◌<◌, ◌≤◌, min, max, set, sym, subst, ◌∙◌, arith, ap, zero, suc, refl}
use Rattle.std.specs.Int.{bit_at, bit_not, trailing_zeros, w64}
use Rattle.std.specs.Prelude.{bit_or, bit_and}
use Rattle.std.proofs.lemmas.Bool.{cases_eq, cases_lt}
use Rattle.std.proofs.lemmas.Nat.{and_le_l, and_le_r, one_shl}
use Rattle.std.proofs.lemmas.Nat.Bits.{bit_at-lt, bit_at_or, bit_at_and, bit_at_not, bit_at-zero, bit_at_set_same, bit_at_set_other, bit_at_clear_same, bit_at_clear_other, bit_at-trailing_zeros, ones_shl, bit_at_ones, bit_at_lowest, bit_at-suc, bit_at-pow_same, bit_at-pow_other, bit_at_mask_below, bit_at_mask_inside}
use Rattle.bitsets.specs.Rows.{HasBit}

-- whether a bit is set is decided
pub HasBit-decided : (word k : ℕ) → HasBit word k ⊎ (HasBit word k → ⊥)
unfolding HasBit
HasBit-decided word k = cases_eq (bit_at word k) 1

-- the word 0 has no bit
pub HasBit-zero : (k : ℕ) → HasBit 0 k → ⊥
unfolding HasBit
HasBit-zero k h = let z : bit_at 0 k ≡ 0 = bit_at-zero k in omega arith

-- the larger of two bits is set if one is
max_bit : (a b : ℕ) → a < 2 → b < 2 → (max a b ≡ 1) ↔ ((a ≡ 1) ⊎ (b ≡ 1))
max_bit a b ha hb = (to, back)
  where
    to : max a b ≡ 1 → (a ≡ 1) ⊎ (b ≡ 1)
    to e = elim (cases_eq a 1) [ inl h ↦ inl h | inr h ↦ inr (omega arith) ]

    back : (a ≡ 1) ⊎ (b ≡ 1) → max a b ≡ 1
    back (inl h) = omega arith
    back (inr h) = omega arith

-- the bits of `a | b`
pub HasBit-or : (a b k : ℕ) → HasBit (bit_or a b) k ↔ (HasBit a k ⊎ HasBit b k)
unfolding HasBit
HasBit-or a b k = rw bit_at_or (max_bit (bit_at a k) (bit_at b k) (bit_at-lt a k) (bit_at-lt b k))

-- the bits of `a & b`
pub HasBit-and : (a b k : ℕ) → HasBit (bit_and a b) k ↔ (HasBit a k × HasBit b k)
unfolding HasBit
HasBit-and a b k =
    let la : bit_at a k < 2 = bit_at-lt a k in
    let lb : bit_at b k < 2 = bit_at-lt b k in
    let e : bit_at (bit_and a b) k ≡ min (bit_at a k) (bit_at b k) = bit_at_and a b k in
    (λ h. (omega arith, omega arith), λ p. let p0 : bit_at a k ≡ 1 = p.0 in let p1 : bit_at b k ≡ 1 = p.1 in omega arith)

-- the bits of `!a`
pub HasBit-not : (a k : ℕ) → a < 2 ^ 64 → k < 64 → HasBit (bit_not w64 a) k ↔ (HasBit a k → ⊥)
unfolding HasBit
HasBit-not a k ha hk =
    let la : bit_at a k < 2 = bit_at-lt a k in
    let e : bit_at (bit_not w64 a) k ≡ 1 - bit_at a k = bit_at_not w64 a k ha hk in
    (λ h. λ g. omega arith, λ none. elim (cases_eq (bit_at a k) 1) [ inl h ↦ absurd (none h) | inr h ↦ omega arith ])

-- the bits of `a | 1 << i`
pub HasBit-set : (a i k : ℕ) → i < 64 → HasBit (bit_or a (1 * 2 ^ i % 2 ^ 64)) k ↔ ((k ≡ i) ⊎ HasBit a k)
unfolding HasBit
HasBit-set a i k hi = (to, back)
  where
    to : bit_at (bit_or a (1 * 2 ^ i % 2 ^ 64)) k ≡ 1 → (k ≡ i) ⊎ (bit_at a k ≡ 1)
    to h = elim (cases_eq k i) [ inl e ↦ inl e | inr ne ↦ inr (sym (bit_at_set_other w64 a i hi k ne) ∙ h) ]

    back : (k ≡ i) ⊎ (bit_at a k ≡ 1) → bit_at (bit_or a (1 * 2 ^ i % 2 ^ 64)) k ≡ 1
    back (inl e) = subst (λ n. bit_at (bit_or a (1 * 2 ^ i % 2 ^ 64)) n ≡ 1) (sym e) (bit_at_set_same w64 a i hi)
    back (inr h) = elim (cases_eq k i) [
      | inl e ↦ subst (λ n. bit_at (bit_or a (1 * 2 ^ i % 2 ^ 64)) n ≡ 1) (sym e) (bit_at_set_same w64 a i hi)
      | inr ne ↦ bit_at_set_other w64 a i hi k ne ∙ h
    ]

-- the bits of `a & !(1 << i)`
pub HasBit-clear : (a i k : ℕ) → i < 64 → k < 64 → HasBit (bit_and a (bit_not w64 (1 * 2 ^ i % 2 ^ 64))) k ↔ ((k ≢ i) × HasBit a k)
unfolding HasBit
HasBit-clear a i k hi hk = (to, λ p. bit_at_clear_other w64 a i hi k hk p.0 ∙ p.1)
  where
    to : bit_at (bit_and a (bit_not w64 (1 * 2 ^ i % 2 ^ 64))) k ≡ 1 → (k ≢ i) × (bit_at a k ≡ 1)
    to h = elim (cases_eq k i) [
      | inl e ↦ (let z : bit_at (bit_and a (bit_not w64 (1 * 2 ^ i % 2 ^ 64))) i ≡ 0 = bit_at_clear_same w64 a i hi in
          let h' : bit_at (bit_and a (bit_not w64 (1 * 2 ^ i % 2 ^ 64))) i ≡ 1 = subst (λ n. bit_at (bit_and a (bit_not w64 (1 * 2 ^ i % 2 ^ 64))) n ≡ 1) e h in
          absurd (omega arith))
      | inr ne ↦ (ne, sym (bit_at_clear_other w64 a i hi k hk ne) ∙ h)
    ]

-- a word that is not 0 has its lowest bit
pub HasBit-lowest : (a : ℕ) → 0 < a → a < 2 ^ 64 → (trailing_zeros w64 a < 64) × HasBit a (trailing_zeros w64 a) × ((k : ℕ) → k < trailing_zeros w64 a → HasBit a k → ⊥)
unfolding HasBit
HasBit-lowest a ha hb =
    let t = bit_at-trailing_zeros w64 a ha hb in
    (t.0, t.1, λ k hk h. let z : bit_at a k ≡ 0 = t.2 k hk in omega arith)

-- to clear a bit that is set makes a word less
pub clear_less : (a i : ℕ) → i < 64 → HasBit a i → bit_and a (bit_not w64 (1 * 2 ^ i % 2 ^ 64)) < a
unfolding HasBit
clear_less a i hi h =
    let le : bit_and a (bit_not w64 (1 * 2 ^ i % 2 ^ 64)) ≤ a = and_le_l a (bit_not w64 (1 * 2 ^ i % 2 ^ 64)) in
    let z : bit_at (bit_and a (bit_not w64 (1 * 2 ^ i % 2 ^ 64))) i ≡ 0 = bit_at_clear_same w64 a i hi in
    elim (cases_eq (bit_and a (bit_not w64 (1 * 2 ^ i % 2 ^ 64))) a) [
      | inl e ↦ (let o : bit_at (bit_and a (bit_not w64 (1 * 2 ^ i % 2 ^ 64))) i ≡ 1 = subst (λ n. bit_at n i ≡ 1) (sym e) h in absurd (omega arith))
      | inr ne ↦ omega arith
    ]

-- to take out of a word the bits of another that has one of its bits makes it less
pub without_less : (a word i : ℕ) → word < 2 ^ 64 → i < 64 → HasBit a i → HasBit word i → bit_and a (bit_not w64 word) < a
without_less a word i small hi h w =
    let le : bit_and a (bit_not w64 word) ≤ a = and_le_l a (bit_not w64 word) in
    elim (cases_eq (bit_and a (bit_not w64 word)) a) [
      | inl e ↦ absurd ((HasBit-not word i small hi).0 ((HasBit-and a (bit_not w64 word) i).0 (subst (λ n. HasBit n i) (sym e) h)).1 w)
      | inr ne ↦ omega arith
    ]

-- a word with its lowest bit at t loses just that one where it meets the number below it
lowest_dropped : (t a k : ℕ) → bit_at a t ≡ 1 → ((i : ℕ) → i < t → bit_at a i ≡ 0) → ((bit_at a k ≡ 1) × (bit_at (a - 1) k ≡ 1)) ↔ ((k ≢ t) × (bit_at a k ≡ 1))
lowest_dropped zero a zero set none =
    let odd : a % 2 ≡ 1 = sym (bit_at_lowest a) ∙ set in
    let even : bit_at (a - 1) 0 ≡ 0 = bit_at_lowest (a - 1) ∙ omega arith in
    (λ both. absurd (let one : bit_at (a - 1) 0 ≡ 1 = both.1 in omega arith), λ is. absurd (is.0 refl))
lowest_dropped zero a (suc m) set none =
    let odd : a % 2 ≡ 1 = sym (bit_at_lowest a) ∙ set in
    let half : (a - 1) / 2 ≡ a / 2 = omega arith in
    let same : bit_at (a - 1) (suc m) ≡ bit_at a (suc m) = bit_at-suc (a - 1) m ∙ ap (λ h. bit_at h m) half ∙ sym (bit_at-suc a m) in
    (λ both. (λ e. absurd (let no : suc m ≡ 0 = e in omega arith), both.0), λ is. (is.1, same ∙ is.1))
lowest_dropped (suc s) a zero set none =
    let even : bit_at a 0 ≡ 0 = none 0 (omega arith) in
    (λ both. absurd (let one : bit_at a 0 ≡ 1 = both.0 in omega arith), λ is. absurd (let one : bit_at a 0 ≡ 1 = is.1 in omega arith))
lowest_dropped (suc s) a (suc m) set none =
    let even : a % 2 ≡ 0 = sym (bit_at_lowest a) ∙ none 0 (omega arith) in
    let there : bit_at (a / 2) s ≡ 1 = sym (bit_at-suc a s) ∙ set in
    let some : 0 < a / 2 = elim (cases_eq (a / 2) 0) [
      | inl e ↦ absurd (let no : bit_at 0 s ≡ 0 = bit_at-zero s in let yes : bit_at 0 s ≡ 1 = subst (λ h. bit_at h s ≡ 1) e there in omega arith)
      | inr other ↦ omega (arith, other)
    ] in
    let half : (a - 1) / 2 ≡ a / 2 - 1 = omega arith in
    let rest = lowest_dropped s (a / 2) m there (λ i low. sym (bit_at-suc a i) ∙ none (suc i) (omega (arith, low))) in
    let old : bit_at a (suc m) ≡ bit_at (a / 2) m = bit_at-suc a m in
    let new : bit_at (a - 1) (suc m) ≡ bit_at (a / 2 - 1) m = bit_at-suc (a - 1) m ∙ ap (λ h. bit_at h m) half in (
      λ both. (let is = rest.0 (sym old ∙ both.0, sym new ∙ both.1) in (λ e. is.0 (let same : suc m ≡ suc s = e in omega arith), both.0)),
      λ is. (let both = rest.1 (λ e. is.0 (ap suc e), sym old ∙ is.1) in (is.1, new ∙ both.1)),
    )

-- the bits of `a & (a - 1)`
pub HasBit-drop : (a k : ℕ) → 0 < a → a < 2 ^ 64 → HasBit (bit_and a (a - 1)) k ↔ ((k ≢ trailing_zeros w64 a) × HasBit a k)
unfolding HasBit
HasBit-drop a k some fits =
    let t = bit_at-trailing_zeros w64 a some fits in
    let both = HasBit-and a (a - 1) k in
    let dropped = lowest_dropped (trailing_zeros w64 a) a k t.1 t.2 in
    (λ bit. dropped.0 (both.0 bit), λ is. both.1 (dropped.1 is))

pub drop_less : (a : ℕ) → 0 < a → bit_and a (a - 1) < a
drop_less a some = let low : bit_and a (a - 1) ≤ a - 1 = and_le_r a (a - 1) in omega arith

-- one bit
pub one_bit : (n v : ℕ) → ((v / 64 ≡ n / 64) × HasBit (1 * 2 ^ (n % 64) % 2 ^ 64) (v % 64)) ↔ (v ≡ n)
unfolding HasBit
one_bit n v =
    let word : 1 * 2 ^ (n % 64) % 2 ^ 64 ≡ 2 ^ (n % 64) = one_shl (n % 64) 64 (omega arith) in (
      λ is. elim (cases_eq (v % 64) (n % 64)) [
        | inl e ↦ (let place = is.0 in omega (arith, e, place))
        | inr other ↦ absurd (let none : bit_at (2 ^ (n % 64)) (v % 64) ≡ 0 = bit_at-pow_other (n % 64) (v % 64) other in
            let one : bit_at (2 ^ (n % 64)) (v % 64) ≡ 1 = subst (λ w. bit_at w (v % 64) ≡ 1) word is.1 in omega arith)
      ],
      λ e. (
        ap (λ m. m / 64) e,
        subst (λ w. bit_at w (v % 64) ≡ 1) (sym word) (subst (λ k. bit_at (2 ^ (n % 64)) k ≡ 1) (sym (ap (λ m. m % 64) e)) (bit_at-pow_same (n % 64))),
      ),
    )

-- the word of all bits
pub full_bit : (k : ℕ) → k < 64 → HasBit (2 ^ 64 - 1) k
unfolding HasBit
full_bit k low = bit_at_ones 64 k low

-- the bits of the numbers above u
pub above_bit : (u j k : ℕ) → j ≡ u / 64 → k < 64 →
    HasBit (bit_and ((2 ^ 64 - 1) * 2 ^ (u % 64) % 2 ^ 64) (bit_not w64 (1 * 2 ^ (u % 64) % 2 ^ 64))) k ↔ (u < 64 * j + k)
unfolding HasBit
above_bit u j k at low =
    let r : ℕ = u % 64 in
    let shifted : (2 ^ 64 - 1) * 2 ^ r % 2 ^ 64 ≡ 2 ^ 64 - 2 ^ r = ones_shl 64 r (omega arith) in
    let clear = HasBit-clear ((2 ^ 64 - 1) * 2 ^ r % 2 ^ 64) r k (omega arith) low in (
      λ bit. (let is = clear.0 bit in elim (cases_lt k r) [
        | inl less ↦ absurd (let none : bit_at (2 ^ 64 - 2 ^ r) k ≡ 0 = bit_at_mask_below r 64 k less in
            let one : bit_at (2 ^ 64 - 2 ^ r) k ≡ 1 = subst (λ w. bit_at w k ≡ 1) shifted is.1 in omega arith)
        | inr more ↦ (let other = is.0 in omega (arith, more, other, at))
      ]),
      λ above. clear.1 (
        λ same. (let no : u < 64 * j + k = above in omega arith),
        subst (λ w. bit_at w k ≡ 1) (sym shifted) (bit_at_mask_inside r 64 k (omega arith) low),
      ),
    )

-- the bits of `a & b & !c`
pub kept_bit : (P Q R : Type 0) (a b c k : ℕ) → c < 2 ^ 64 → k < 64 → HasBit a k ↔ P → HasBit b k ↔ Q → HasBit c k ↔ R →
    HasBit (bit_and (bit_and a b) (bit_not w64 c)) k ↔ (P × Q × (R → ⊥))
kept_bit P Q R a b c k fits low p q r =
    let outer = HasBit-and (bit_and a b) (bit_not w64 c) k in
    let inner = HasBit-and a b k in
    let not = HasBit-not c k fits low in (
      λ bit. (let both = outer.0 bit in let two = inner.0 both.0 in (p.0 two.0, q.0 two.1, λ is. not.0 both.1 (r.1 is))),
      λ is. outer.1 (inner.1 (p.1 is.0, q.1 is.1), not.1 (λ bit. is.2 (r.0 bit))),
    )

-- Rows of a table that gain the bits of words or of other rows, word by word and row by row.
use Rattle.std.proofs.Common.{◌≡◌, ◌⊎◌, ◌↔◌, inl, inr, ℕ, ◌+◌, ◌*◌, ◌/◌, ◌%◌, ◌^◌, ◌<◌, ◌≤◌, List, length, get_or, set, sym, subst, arith}
use Rattle.std.specs.Int.{bit_not, trailing_zeros, w64}
use Rattle.std.specs.Prelude.{bit_or, bit_and}
use Rattle.std.proofs.lemmas.Bool.{cases_eq}
use Rattle.std.proofs.lemmas.List.{get_or_past}
use Rattle.bitsets.specs.Rows.{HasBit, HasNumber}
use Rattle.bitsets.specs.Tables.{IsSet, Adds}
use Rattle.bitsets.proofs.WordFacts.{HasBit-zero, HasBit-or, HasBit-clear, HasBit-lowest}
use Rattle.bitsets.proofs.TableFacts.{IsSet-decided, IsSet-word, Leaves, Leaves-start, Leaves-step, Leaves-end}

-- The rows whose numbers are bits of word j have the bits given of word i, but for the rows of the bits left.
pub record SetsRows (old now : List ℕ) (width j rows i given left : ℕ) : Type 0 where
  pub some : (k : ℕ) → k < 64 → HasBit left k → HasBit rows k
  pub leaves : Leaves old now width (λ y x. (y / 64 ≡ j) × HasBit rows (y % 64) × (x / 64 ≡ i) × HasBit given (x % 64)) (λ y x. (y / 64 ≡ j) × HasBit left (y % 64) × (x / 64 ≡ i) × HasBit given (x % 64))

pub SetsRows-start : (old : List ℕ) (width j rows i given : ℕ) → SetsRows old old width j rows i given rows
SetsRows-start old width j rows i given = record {
  some = λ k h b. b;
  leaves = Leaves-start old width _ _ (λ y x h. (λ p. p, λ p. p));
}

-- the lowest of them is marked and left out
pub SetsRows-step : (old now new : List ℕ) (width j rows i given left : ℕ) → SetsRows old now width j rows i given left → 0 < left → left < 2 ^ 64 →
    Adds now new width (λ y x. (y ≡ 64 * j + trailing_zeros w64 left) × (x / 64 ≡ i) × HasBit given (x % 64)) →
    SetsRows old new width j rows i given (bit_and left (bit_not w64 (1 * 2 ^ trailing_zeros w64 left % 2 ^ 64)))
SetsRows-step old now new width j rows i given left marks some fits adds =
    let low = HasBit-lowest left some fits in
    let bound : trailing_zeros w64 left < 64 = low.0 in
    let clear = λ (k : ℕ) (h : k < 64). HasBit-clear left (trailing_zeros w64 left) k bound h in
    record {
      some = λ k h b. marks.some k h ((clear k h).0 b).1;
      leaves = Leaves-step old now new width _ _ _ _ marks.leaves adds
          (λ y x h p. elim (cases_eq (y % 64) (trailing_zeros w64 left)) [
            | inl e ↦ inr (inl (omega (arith, e, p.0), p.2, p.3))
            | inr ne ↦ inr (inr (p.0, (clear (y % 64) (omega arith)).1 (ne, p.1), p.2, p.3))
          ])
          (λ y x h p. let at : y ≡ 64 * j + trailing_zeros w64 left = p.0 in
          let m : y % 64 ≡ trailing_zeros w64 left = omega arith in
          (omega arith, subst (λ n. HasBit left n) (sym m) low.1, p.1, p.2))
          (λ y x h p. (p.0, ((clear (y % 64) (omega arith)).0 p.1).1, p.2, p.3));
    }

pub SetsRows-end : (old now : List ℕ) (width j rows i given : ℕ) → SetsRows old now width j rows i given 0 → Adds old now width (λ y x. (y / 64 ≡ j) × HasBit rows (y % 64) × (x / 64 ≡ i) × HasBit given (x % 64))
SetsRows-end old now width j rows i given marks = Leaves-end old now width _ _ marks.leaves (λ y x h p. HasBit-zero (y % 64) p.1)

-- The bits returned are given ones, and of the rows that are not left each had the others; the rows left are as they were.
pub record Tells (old now : List ℕ) (width j rows i given left told : ℕ) : Type 0 where
  pub only : (k : ℕ) → k < 64 → HasBit told k → HasBit given k
  pub had : (y x : ℕ) → y / 64 ≡ j → HasBit rows (y % 64) → (HasBit left (y % 64) → ⊥) → x / 64 ≡ i → HasBit given (x % 64) → IsSet old width y x ⊎ HasBit told (x % 64)
  pub untouched : (y x : ℕ) → y / 64 ≡ j → HasBit left (y % 64) → x / 64 < width → IsSet now width y x → IsSet old width y x

pub Tells-start : (old : List ℕ) (width j rows i given : ℕ) → Tells old old width j rows i given rows 0
Tells-start old width j rows i given = record {
  only = λ k h b. absurd (HasBit-zero k b);
  had = λ y x hj b none hi g. absurd (none b);
  untouched = λ y x hj b h s. s;
}

-- what the lowest of them lacked is returned too
pub Tells-step : (old now new : List ℕ) (width j rows i given left told fresh : ℕ) → Tells old now width j rows i given left told → i < width → 0 < left → left < 2 ^ 64 →
    Adds now new width (λ y x. (y ≡ 64 * j + trailing_zeros w64 left) × (x / 64 ≡ i) × HasBit given (x % 64)) →
    ((x : ℕ) → x / 64 ≡ i → HasBit fresh (x % 64) ↔ (HasBit given (x % 64) × (IsSet now width (64 * j + trailing_zeros w64 left) x → ⊥))) →
    Tells old new width j rows i given (bit_and left (bit_not w64 (1 * 2 ^ trailing_zeros w64 left % 2 ^ 64))) (bit_or told fresh)
Tells-step old now new width j rows i given left told fresh tells hi some fits adds lacked =
    let low = HasBit-lowest left some fits in
    let bound : trailing_zeros w64 left < 64 = low.0 in
    let clear = λ (k : ℕ) (h : k < 64). HasBit-clear left (trailing_zeros w64 left) k bound h in
    record {
      only = λ k h b. elim ((HasBit-or told fresh k).0 b) [
        | inl t ↦ tells.only k h t
        | inr f ↦ (let m : (64 * i + k) % 64 ≡ k = omega arith in
            subst (λ n. HasBit given n) m ((lacked (64 * i + k) (omega arith)).0 (subst (λ n. HasBit fresh n) (sym m) f)).0)
      ];
      had = λ y x hj b none at g. elim (cases_eq (y % 64) (trailing_zeros w64 left)) [
        | inl e ↦ (let place : y ≡ 64 * j + trailing_zeros w64 left = omega arith in
            elim (IsSet-decided now width y x) [
              | inl set ↦ inl (tells.untouched y x hj (subst (λ n. HasBit left n) (sym e) low.1) (omega arith) set)
              | inr lacks ↦ inr ((HasBit-or told fresh (x % 64)).1 (inr ((lacked x at).1 (g, λ s. lacks (subst (λ n. IsSet now width n x) (sym place) s)))))
            ])
        | inr ne ↦ elim (tells.had y x hj b (λ l. none ((clear (y % 64) (omega arith)).1 (ne, l))) at g) [
          | inl set ↦ inl set
          | inr t ↦ inr ((HasBit-or told fresh (x % 64)).1 (inl t))
        ]
      ];
      untouched = λ y x hj l h s.
          let still = (clear (y % 64) (omega arith)).0 l in
          elim ((adds.bits y x h).0 s) [
            | inl set ↦ tells.untouched y x hj still.1 h set
            | inr g ↦ (let at : y ≡ 64 * j + trailing_zeros w64 left = g.0 in absurd (still.0 (omega arith)))
          ];
    }

-- Row x gains the numbers of a row of words, from word j on.
abbrev pub WordsFrom : List ℕ → ℕ → ℕ → ℕ → ℕ → Type 0
WordsFrom words x j i y = (i ≡ x) × (j ≤ y / 64) × HasNumber words y

pub WordsFrom-start : (old words : List ℕ) (width x : ℕ) → Leaves old old width (λ i y. (i ≡ x) × HasNumber words y) (WordsFrom words x 0)
WordsFrom-start old words width x = Leaves-start old width _ _ (λ i y h. (λ p. (p.0, omega arith, p.1), λ p. (p.0, p.2)))

pub WordsFrom-step : (old now new words : List ℕ) (width x j : ℕ) → Leaves old now width (λ i y. (i ≡ x) × HasNumber words y) (WordsFrom words x j) →
    Adds now new width (λ i y. (i ≡ x) × (y / 64 ≡ j) × HasBit (get_or words j 0) (y % 64)) → Leaves old new width (λ i y. (i ≡ x) × HasNumber words y) (WordsFrom words x (j + 1))
WordsFrom-step old now new words width x j leaves adds = Leaves-step old now new width _ _ _ _ leaves adds
    (λ i y h p. elim (cases_eq (y / 64) j) [
      | inl e ↦ inr (inl (p.0, e, subst (λ n. HasBit (get_or words n 0) (y % 64)) e p.2))
      | inr ne ↦ inr (inr (p.0, omega (arith, p.1, ne), p.2))
    ])
    (λ i y h p. (p.0, omega (arith, p.1), subst (λ n. HasBit (get_or words n 0) (y % 64)) (sym p.1) p.2))
    (λ i y h p. (p.0, omega (arith, p.1), p.2))

-- past the end of the row of words or of the table's row nothing is left
pub WordsFrom-end : (old now words : List ℕ) (width x j : ℕ) → (width ≤ j) ⊎ (length words ≤ j) → Leaves old now width (λ i y. (i ≡ x) × HasNumber words y) (WordsFrom words x j) →
    Adds old now width (λ i y. (i ≡ x) × HasNumber words y)
WordsFrom-end old now words width x j past leaves = Leaves-end old now width _ _ leaves (λ i y h p. elim past [
  | inl wide ↦ omega (arith, p.1, h, wide)
  | inr long ↦ HasBit-zero (y % 64) (subst (λ n. HasBit n (y % 64)) (get_or_past words (y / 64) 0 (omega (arith, p.1, long))) p.2)
])

-- a row's columns from word j on, given to a row
abbrev pub RowFrom : List ℕ → ℕ → ℕ → ℕ → ℕ → ℕ → ℕ → Type 0
RowFrom other width row x j i y = (i ≡ row) × (j ≤ y / 64) × IsSet other width x y

pub RowFrom-start : (old other : List ℕ) (width row x first : ℕ) → Leaves old old width (RowFrom other width row x first) (RowFrom other width row x first)
RowFrom-start old other width row x first = Leaves-start old width _ _ (λ i y h. (λ p. p, λ p. p))

pub RowFrom-step : (old now new other : List ℕ) (width row x first j : ℕ) → Leaves old now width (RowFrom other width row x first) (RowFrom other width row x j) →
    Adds now new width (λ i y. (i ≡ row) × (y / 64 ≡ j) × HasBit (get_or other (x * width + j) 0) (y % 64)) →
    Leaves old new width (RowFrom other width row x first) (RowFrom other width row x (j + 1))
RowFrom-step old now new other width row x first j leaves adds = Leaves-step old now new width _ _ _ _ leaves adds
    (λ i y h p. elim (cases_eq (y / 64) j) [
      | inl e ↦ inr (inl (p.0, e, (IsSet-word other width x j y e).0 p.2))
      | inr ne ↦ inr (inr (p.0, omega (arith, p.1, ne), p.2))
    ])
    (λ i y h p. (p.0, omega (arith, p.1), (IsSet-word other width x j y p.1).1 p.2))
    (λ i y h p. (p.0, omega (arith, p.1), p.2))

pub RowFrom-end : (old now other : List ℕ) (width row x first j : ℕ) → width ≤ j → Leaves old now width (RowFrom other width row x first) (RowFrom other width row x j) → Adds old now width (RowFrom other width row x first)
RowFrom-end old now other width row x first j past leaves = Leaves-end old now width _ _ leaves (λ i y h p. omega (arith, p.1, h))

-- the columns, from word `first` on, of the rows whose numbers are bits of word i
abbrev pub RowsFrom : List ℕ → ℕ → ℕ → ℕ → ℕ → ℕ → ℕ → ℕ → Type 0
RowsFrom other width row i first rows r y = (r ≡ row) × (first ≤ y / 64) × ((x : ℕ) × (x / 64 ≡ i) × HasBit rows (x % 64) × IsSet other width x y)

-- All but the rows of the bits left were given.
pub record Gathers (old now other : List ℕ) (width row i first rows left : ℕ) : Type 0 where
  pub some : (k : ℕ) → k < 64 → HasBit left k → HasBit rows k
  pub leaves : Leaves old now width (RowsFrom other width row i first rows) (RowsFrom other width row i first left)

pub Gathers-start : (old other : List ℕ) (width row i first rows : ℕ) → Gathers old old other width row i first rows rows
Gathers-start old other width row i first rows = record {
  some = λ k h b. b;
  leaves = Leaves-start old width _ _ (λ r y h. (λ p. p, λ p. p));
}

pub Gathers-step : (old now new other : List ℕ) (width row i first rows left : ℕ) → Gathers old now other width row i first rows left → 0 < left → left < 2 ^ 64 →
    Adds now new width (RowFrom other width row (64 * i + trailing_zeros w64 left) first) →
    Gathers old new other width row i first rows (bit_and left (bit_not w64 (1 * 2 ^ trailing_zeros w64 left % 2 ^ 64)))
Gathers-step old now new other width row i first rows left gathers some fits adds =
    let low = HasBit-lowest left some fits in
    let bound : trailing_zeros w64 left < 64 = low.0 in
    let clear = λ (k : ℕ) (h : k < 64). HasBit-clear left (trailing_zeros w64 left) k bound h in
    let at : (64 * i + trailing_zeros w64 left) / 64 ≡ i = omega arith in
    let m : (64 * i + trailing_zeros w64 left) % 64 ≡ trailing_zeros w64 left = omega arith in
    record {
      some = λ k h b. gathers.some k h ((clear k h).0 b).1;
      leaves = Leaves-step old now new width _ _ _ _ gathers.leaves adds
          (λ r y h p. let x : ℕ = p.2.0 in
          elim (cases_eq (x % 64) (trailing_zeros w64 left)) [
            | inl e ↦ (let here : x ≡ 64 * i + trailing_zeros w64 left = omega (arith, e, p.2.1) in inr (inl (p.0, p.1, subst (λ n. IsSet other width n y) here p.2.3)))
            | inr ne ↦ inr (inr (p.0, p.1, (x, p.2.1, (clear (x % 64) (omega arith)).1 (ne, p.2.2), p.2.3)))
          ])
          (λ r y h p. (p.0, p.1, (64 * i + trailing_zeros w64 left, at, subst (λ n. HasBit left n) (sym m) low.1, p.2)))
          (λ r y h p. (p.0, p.1, (p.2.0, p.2.1, ((clear (p.2.0 % 64) (omega arith)).0 p.2.2).1, p.2.3)));
    }

pub Gathers-end : (old now other : List ℕ) (width row i first rows : ℕ) → Gathers old now other width row i first rows 0 → Adds old now width (RowsFrom other width row i first rows)
Gathers-end old now other width row i first rows gathers = Leaves-end old now width _ _ gathers.leaves (λ r y h p. HasBit-zero (p.2.0 % 64) p.2.2)

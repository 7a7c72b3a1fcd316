-- A table that is transposed, block by block.
use Rattle.std.proofs.Common.{◌≡◌, ◌⊎◌, ◌↔◌, inl, inr, ℕ, ◌+◌, ◌*◌, ◌/◌, ◌%◌, ◌^◌, ◌<◌, ◌≤◌, List, length, get_or, replicate, sym, ap, subst, ◌∙◌, arith}
use Rattle.std.specs.Prelude.{bit_or}
use Rattle.std.proofs.lemmas.Bool.{cases_eq, cases_lt}
use Rattle.bitsets.specs.Rows.{HasBit}
use Rattle.bitsets.specs.Tables.{IsSet, Adds}
use Rattle.order_graph.specs.Internal.Tables.{IsTable, AreTransposed}
use Rattle.bitsets.proofs.WordFacts.{HasBit-zero, HasBit-set}
use Rattle.bitsets.proofs.TableFacts.{IsSet-word, column_within, no_bit}
use Rattle.std.proofs.lemmas.List.{length-replicate}

-- the block's bits of the rows before `upto`, transposed
abbrev pub BlockBefore : List ℕ → ℕ → ℕ → ℕ → ℕ → ℕ → ℕ → Type 0
BlockBefore table width i j upto y x = (y / 64 ≡ j) × (x / 64 ≡ i) × (x < upto) × IsSet table width x y

-- the bits of a word in each of these rows, transposed
abbrev pub Pending : ℕ → ℕ → ℕ → ℕ → ℕ → ℕ → Type 0
Pending j word i rows y x = (y / 64 ≡ j) × HasBit word (y % 64) × (x / 64 ≡ i) × HasBit rows (x % 64)

-- The rows before `upto` are transposed but for those of which each has this word.
pub record TransposesBlock (old now table : List ℕ) (width nodes i j upto word rows : ℕ) : Type 0 where
  pub bits : (y x : ℕ) → x / 64 < width → (IsSet now width y x ⊎ Pending j word i rows y x) ↔ (IsSet old width y x ⊎ BlockBefore table width i j upto y x)
  pub within : (k : ℕ) → k < 64 → HasBit word k → 64 * j + k < nodes

pub TransposesBlock-start : (old table : List ℕ) (width nodes i j : ℕ) → TransposesBlock old old table width nodes i j (64 * i) 0 0
TransposesBlock-start old table width nodes i j = record {
  bits = λ y x h. (
    λ s. elim s [ inl o ↦ inl o | inr p ↦ absurd (HasBit-zero (y % 64) p.1) ],
    λ s. elim s [ inl o ↦ inl o | inr p ↦ absurd (omega (arith, p.1, p.2)) ],
  );
  within = λ k h b. absurd (HasBit-zero k b);
}

-- the rows that have the word are transposed, and the next word has no rows yet
pub TransposesBlock-set : (old now new table : List ℕ) (width nodes i j upto word rows next : ℕ) → TransposesBlock old now table width nodes i j upto word rows →
    Adds now new width (λ y x. (y / 64 ≡ j) × HasBit word (y % 64) × (x / 64 ≡ i) × HasBit rows (x % 64)) → ((k : ℕ) → k < 64 → HasBit next k → 64 * j + k < nodes) →
    TransposesBlock old new table width nodes i j upto next 0
TransposesBlock-set old now new table width nodes i j upto word rows next transposes adds within = record {
  bits = λ y x h. (
    λ s. (transposes.bits y x h).0 (elim s [ inl n ↦ (adds.bits y x h).0 n | inr p ↦ absurd (HasBit-zero (x % 64) p.3) ]),
    λ s. inl ((adds.bits y x h).1 ((transposes.bits y x h).1 s)),
  );
  within = within;
}

-- one row more has the word
pub TransposesBlock-row : (old now table : List ℕ) (width nodes i j upto word rows : ℕ) → TransposesBlock old now table width nodes i j upto word rows →
    get_or table (upto * width + j) 0 ≡ word → upto / 64 ≡ i → TransposesBlock old now table width nodes i j (upto + 1) word (bit_or rows (1 * 2 ^ (upto % 64) % 2 ^ 64))
TransposesBlock-row old now table width nodes i j upto word rows transposes same at = record {
  bits = λ y x h. (to y x h, back y x h);
  within = transposes.within;
}
  where
    -- the row's bits are the word's
    row : (y : ℕ) → y / 64 ≡ j → IsSet table width upto y ↔ HasBit word (y % 64)
    row y e = subst (λ n. IsSet table width upto y ↔ HasBit n (y % 64)) same (IsSet-word table width upto j y e)

    grown : (y x : ℕ) → x / 64 < width → IsSet now width y x ⊎ Pending j word i rows y x → IsSet old width y x ⊎ BlockBefore table width i j (upto + 1) y x
    grown y x h s = elim ((transposes.bits y x h).0 s) [ inl o ↦ inl o | inr p ↦ inr (p.0, p.1, omega (arith, p.2), p.3) ]

    to : (y x : ℕ) → x / 64 < width → IsSet now width y x ⊎ Pending j word i (bit_or rows (1 * 2 ^ (upto % 64) % 2 ^ 64)) y x → IsSet old width y x ⊎ BlockBefore table width i j (upto + 1) y x
    to y x h (inl s) = grown y x h (inl s)
    to y x h (inr p) = elim ((HasBit-set rows (upto % 64) (x % 64) (omega arith)).0 p.3) [
      | inl e ↦ (let here : x ≡ upto = omega (arith, e, at, p.2) in inr (p.0, p.2, omega (arith, here), subst (λ n. IsSet table width n y) (sym here) ((row y p.0).1 p.1)))
      | inr b ↦ grown y x h (inr (p.0, p.1, p.2, b))
    ]

    back : (y x : ℕ) → x / 64 < width → IsSet old width y x ⊎ BlockBefore table width i j (upto + 1) y x → IsSet now width y x ⊎ Pending j word i (bit_or rows (1 * 2 ^ (upto % 64) % 2 ^ 64)) y x
    back y x h (inl o) = more y x ((transposes.bits y x h).1 (inl o))
      where
        more : (y x : ℕ) → IsSet now width y x ⊎ Pending j word i rows y x → IsSet now width y x ⊎ Pending j word i (bit_or rows (1 * 2 ^ (upto % 64) % 2 ^ 64)) y x
        more y x (inl s) = inl s
        more y x (inr p) = inr (p.0, p.1, p.2, (HasBit-set rows (upto % 64) (x % 64) (omega arith)).1 (inr p.3))
    back y x h (inr p) = elim (cases_eq x upto) [
      | inl here ↦ inr (p.0, (row y p.0).0 (subst (λ n. IsSet table width n y) here p.3), p.1, (HasBit-set rows (upto % 64) (x % 64) (omega arith)).1 (inl (omega (arith, here))))
      | inr ne ↦ elim ((transposes.bits y x h).1 (inr (p.0, p.1, omega (arith, p.2, ne), p.3))) [
        | inl s ↦ inl s
        | inr q ↦ inr (q.0, q.1, q.2, (HasBit-set rows (upto % 64) (x % 64) (omega arith)).1 (inr q.3))
      ]
    ]

-- at last all rows of the block are transposed
pub TransposesBlock-end : (old now new table : List ℕ) (width nodes i j upto word rows : ℕ) → TransposesBlock old now table width nodes i j upto word rows →
    upto ≤ nodes → (nodes ≤ upto) ⊎ (64 * i + 64 ≤ upto) →
    Adds now new width (λ y x. (y / 64 ≡ j) × HasBit word (y % 64) × (x / 64 ≡ i) × HasBit rows (x % 64)) →
    Adds old new width (λ y x. (y / 64 ≡ j) × (x / 64 ≡ i) × (x < nodes) × IsSet table width x y)
TransposesBlock-end old now new table width nodes i j upto word rows transposes le past adds = record {
  bits = λ y x h. (
    λ s. elim ((transposes.bits y x h).0 ((adds.bits y x h).0 s)) [ inl o ↦ inl o | inr p ↦ inr (p.0, p.1, omega (arith, p.2, le), p.3) ],
    λ s. (adds.bits y x h).1 ((transposes.bits y x h).1 (elim s [ inl o ↦ inl o | inr p ↦ inr (p.0, p.1, before x p.1 p.2, p.3) ])),
  );
}
  where
    before : (x : ℕ) → x / 64 ≡ i → x < nodes → x < upto
    before x at h = elim past [ inl all ↦ omega (arith, all, h) | inr block ↦ omega (arith, block, at) ]

-- the bits of the words from `first` on and before j, of the rows of word i, transposed
abbrev pub BlocksBefore : List ℕ → ℕ → ℕ → ℕ → ℕ → ℕ → ℕ → ℕ → Type 0
BlocksBefore table width nodes i first j y x = (first ≤ y / 64) × (y / 64 < j) × (x / 64 ≡ i) × (x < nodes) × IsSet table width x y

pub BlocksBefore-none : (old table : List ℕ) (width nodes i first j : ℕ) → j ≤ first → Adds old old width (BlocksBefore table width nodes i first j)
BlocksBefore-none old table width nodes i first j none = record { bits = λ y x h. (λ s. inl s, λ s. elim s [ inl o ↦ o | inr p ↦ absurd (omega (arith, none, p.0, p.1)) ]) }

pub BlocksBefore-step : (old now new table : List ℕ) (width nodes i first j : ℕ) → first ≤ j → Adds old now width (BlocksBefore table width nodes i first j) →
    Adds now new width (λ y x. (y / 64 ≡ j) × (x / 64 ≡ i) × (x < nodes) × IsSet table width x y) → Adds old new width (BlocksBefore table width nodes i first (j + 1))
BlocksBefore-step old now new table width nodes i first j from before adds = record {
  bits = λ y x h. (
    λ s. elim ((adds.bits y x h).0 s) [
      | inl n ↦ elim ((before.bits y x h).0 n) [ inl o ↦ inl o | inr p ↦ inr (p.0, omega (arith, p.1), p.2, p.3, p.4) ]
      | inr p ↦ inr (omega (arith, p.0, from), omega (arith, p.0), p.1, p.2, p.3)
    ],
    λ s. (adds.bits y x h).1 (elim s [
      | inl o ↦ inl ((before.bits y x h).1 (inl o))
      | inr p ↦ elim (cases_eq (y / 64) j) [
        | inl at ↦ inr (at, p.2, p.3, p.4)
        | inr ne ↦ inl ((before.bits y x h).1 (inr (p.0, omega (arith, p.1, ne), p.2, p.3, p.4)))
      ]
    ]),
  );
}

-- the bits of the words from `first` on and before `end`, of the rows before word i, transposed
abbrev pub ColumnsBefore : List ℕ → ℕ → ℕ → ℕ → ℕ → ℕ → ℕ → ℕ → Type 0
ColumnsBefore table width nodes first end i y x = (first ≤ y / 64) × (y / 64 < end) × (x / 64 < i) × (x < nodes) × IsSet table width x y

pub ColumnsBefore-start : (old table : List ℕ) (width nodes first end : ℕ) → Adds old old width (ColumnsBefore table width nodes first end 0)
ColumnsBefore-start old table width nodes first end = record { bits = λ y x h. (λ s. inl s, λ s. elim s [ inl o ↦ o | inr p ↦ absurd (omega (arith, p.2)) ]) }

pub ColumnsBefore-step : (old now new table : List ℕ) (width nodes first end i : ℕ) → Adds old now width (ColumnsBefore table width nodes first end i) →
    Adds now new width (BlocksBefore table width nodes i first end) → Adds old new width (ColumnsBefore table width nodes first end (i + 1))
ColumnsBefore-step old now new table width nodes first end i before adds = record {
  bits = λ y x h. (
    λ s. elim ((adds.bits y x h).0 s) [
      | inl n ↦ elim ((before.bits y x h).0 n) [ inl o ↦ inl o | inr p ↦ inr (p.0, p.1, omega (arith, p.2), p.3, p.4) ]
      | inr p ↦ inr (p.0, p.1, omega (arith, p.2), p.3, p.4)
    ],
    λ s. (adds.bits y x h).1 (elim s [
      | inl o ↦ inl ((before.bits y x h).1 (inl o))
      | inr p ↦ elim (cases_eq (x / 64) i) [
        | inl at ↦ inr (p.0, p.1, at, p.3, p.4)
        | inr ne ↦ inl ((before.bits y x h).1 (inr (p.0, p.1, omega (arith, p.2, ne), p.3, p.4)))
      ]
    ]),
  );
}

pub ColumnsBefore-end : (old now table : List ℕ) (width nodes first end i : ℕ) → width ≤ i → Adds old now width (ColumnsBefore table width nodes first end i) →
    Adds old now width (λ y x. (first ≤ y / 64) × (y / 64 < end) × (x < nodes) × IsSet table width x y)
ColumnsBefore-end old now table width nodes first end i past before = record {
  bits = λ y x h. (
    λ s. elim ((before.bits y x h).0 s) [ inl o ↦ inl o | inr p ↦ inr (p.0, p.1, p.3, p.4) ],
    λ s. (before.bits y x h).1 (elim s [ inl o ↦ inl o | inr p ↦ inr (p.0, p.1, omega (arith, past, h), p.2, p.3) ]),
  );
}

-- The columns before word j are transposed.
pub record TransposesBefore (table transposed : List ℕ) (width nodes j : ℕ) : Type 0 where
  pub sized : length transposed ≡ nodes * width
  pub bits : (y x : ℕ) → x / 64 < width → IsSet transposed width y x ↔ ((y / 64 < j) × (x < nodes) × IsSet table width x y)

pub TransposesBefore-start : (table zeros : List ℕ) (width nodes : ℕ) → zeros ≡ replicate (nodes * width) 0 → TransposesBefore table zeros width nodes 0
TransposesBefore-start table zeros width nodes same = record {
  sized = ap length same ∙ length-replicate {A = ℕ} (nodes * width) 0;
  bits = λ y x h. (λ s. absurd (no_bit (nodes * width) width y x (subst (λ l. IsSet l width y x) same s)), λ p. absurd (omega (arith, p.0)));
}

-- those from `first` on and before `end` are too
pub TransposesBefore-step : (table transposed new : List ℕ) (width nodes first end : ℕ) → first ≤ end → TransposesBefore table transposed width nodes first → length new ≡ length transposed →
    Adds transposed new width (λ y x. (first ≤ y / 64) × (y / 64 < end) × (x < nodes) × IsSet table width x y) → TransposesBefore table new width nodes end
TransposesBefore-step table transposed new width nodes first end order before sized adds = record {
  sized = sized ∙ before.sized;
  bits = λ y x h. (
    λ s. elim ((adds.bits y x h).0 s) [
      | inl o ↦ (let p = (before.bits y x h).0 o in (omega (arith, p.0, order), p.1, p.2))
      | inr p ↦ (p.1, p.2, p.3)
    ],
    λ p. (adds.bits y x h).1 (elim (cases_lt (y / 64) first) [
      | inl done ↦ inl ((before.bits y x h).1 (done, p.1, p.2))
      | inr from ↦ inr (omega (arith, from), p.0, p.1, p.2)
    ]),
  );
}

-- where all columns are transposed, the table is
pub TransposesBefore-end : (table transposed : List ℕ) (width nodes j : ℕ) → IsTable nodes width table → width ≤ j → TransposesBefore table transposed width nodes j → AreTransposed table transposed width nodes
TransposesBefore-end table transposed width nodes j is past before = record {
  table_sized = is.sized;
  transposed_sized = before.sized;
  within = is.within;
  transposed_within = λ y x hy hx s. ((before.bits y x hx).0 s).1;
  same = λ x y hx hy.
      let col_x = column_within x nodes width is.fits hx in
      let col_y = column_within y nodes width is.fits hy in
      (λ s. ((before.bits y x col_x).0 s).2, λ s. (before.bits y x col_x).1 (omega (arith, col_y, past), hx, s));
}

-- The bits of a table whose words change, and which of the bits given to it are left.
use Rattle.std.proofs.Common.{◌≡◌, ◌≢◌, ◌⊎◌, ◌↔◌, inl, inr, ℕ, ◌+◌, ◌*◌, ◌/◌, ◌%◌, ◌^◌, ◌<◌, ◌≤◌, List, length, get_or, set, sym, subst, ◌∙◌, arith, replicate, take, drop}
use Rattle.std.specs.Int.{bit_not, w64}
use Rattle.std.specs.Prelude.{bit_and}
use Rattle.std.proofs.lemmas.Bool.{cases_eq, cases_lt}
use Rattle.std.proofs.lemmas.Nat.{same_from_place, row_fits}
use Rattle.std.proofs.lemmas.List.{get_or-set_same, get_or-set_other, get_or_past, length-replicate, get_or-replicate, get_or-drop, get_or-take, length-take}
use Rattle.bitsets.specs.Rows.{HasBit, HasNumber}
use Rattle.bitsets.specs.Tables.{IsSet, Adds, Loses}
use Rattle.bitsets.proofs.WordFacts.{HasBit-decided, HasBit-zero, HasBit-clear}

pub IsSet-decided : (table : List ℕ) (width x y : ℕ) → IsSet table width x y ⊎ (IsSet table width x y → ⊥)
unfolding IsSet
IsSet-decided table width x y = HasBit-decided (get_or table (x * width + y / 64) 0) (y % 64)

-- a bit of a table in which a word of row x was written: in that word, and elsewhere
pub IsSet-written : (table : List ℕ) (width x j word i y : ℕ) → x * width + j < length table → i ≡ x → y / 64 ≡ j →
    IsSet (set table (x * width + j) word) width i y ↔ HasBit word (y % 64)
unfolding IsSet
IsSet-written table width x j word i y h ei ej =
    let same : get_or (set table (x * width + j) word) (i * width + y / 64) 0 ≡ word =
    subst (λ n. get_or (set table (x * width + j) word) (n * width + y / 64) 0 ≡ word) (sym ei)
    (subst (λ n. get_or (set table (x * width + j) word) (x * width + n) 0 ≡ word) (sym ej) (get_or-set_same table (x * width + j) word 0 h)) in
    (λ s. subst (λ n. HasBit n (y % 64)) same s, λ s. subst (λ n. HasBit n (y % 64)) (sym same) s)

pub IsSet-elsewhere : (table : List ℕ) (width x j word i y : ℕ) → j < width → y / 64 < width → ((i ≡ x) × (y / 64 ≡ j) → ⊥) →
    IsSet (set table (x * width + j) word) width i y ↔ IsSet table width i y
unfolding IsSet
IsSet-elsewhere table width x j word i y hj hy apart =
    let ne : (i * width + y / 64) ≢ (x * width + j) = λ e. apart (same_from_place i (y / 64) x j width hy hj e) in
    let same : get_or (set table (x * width + j) word) (i * width + y / 64) 0 ≡ get_or table (i * width + y / 64) 0 =
    get_or-set_other table (x * width + j) (i * width + y / 64) word 0 ne in
    (λ s. subst (λ n. HasBit n (y % 64)) same s, λ s. subst (λ n. HasBit n (y % 64)) (sym same) s)

-- the word at a place is that of its bits
pub IsSet-word : (table : List ℕ) (width x j y : ℕ) → y / 64 ≡ j → IsSet table width x y ↔ HasBit (get_or table (x * width + j) 0) (y % 64)
unfolding IsSet
IsSet-word table width x j y e =
    (λ s. subst (λ n. HasBit (get_or table (x * width + n) 0) (y % 64)) e s, λ s. subst (λ n. HasBit (get_or table (x * width + n) 0) (y % 64)) (sym e) s)

-- bit k of word j of row x
pub IsSet-at : (table : List ℕ) (width x j k : ℕ) → k < 64 → IsSet table width x (64 * j + k) ↔ HasBit (get_or table (x * width + j) 0) k
IsSet-at table width x j k h =
    let m : (64 * j + k) % 64 ≡ k = omega arith in
    let at : (64 * j + k) / 64 ≡ j = omega arith in
    subst (λ n. IsSet table width x (64 * j + k) ↔ HasBit (get_or table (x * width + j) 0) n) m (IsSet-word table width x j (64 * j + k) at)

-- To write a word of row x that has its bits and those given adds the bits given.
pub Adds-written : (table : List ℕ) (width x j word : ℕ) (Given : ℕ → Type 0) → j < width → x * width + j < length table →
    ((k : ℕ) → k < 64 → HasBit word k ↔ (HasBit (get_or table (x * width + j) 0) k ⊎ Given k)) →
    Adds table (set table (x * width + j) word) width (λ i y. (i ≡ x) × (y / 64 ≡ j) × Given (y % 64))
Adds-written table width x j word Given hj h bits = record { bits = at }
  where
    here : (i y : ℕ) → i ≡ x → y / 64 ≡ j → IsSet (set table (x * width + j) word) width i y ↔ (IsSet table width i y ⊎ ((i ≡ x) × (y / 64 ≡ j) × Given (y % 64)))
    here i y ei ej =
        let w = IsSet-written table width x j word i y h ei ej in
        let b = bits (y % 64) (omega arith) in
        let o = IsSet-word table width x j y ej in (
          λ s. elim (b.0 (w.0 s)) [
            | inl old ↦ inl (subst (λ n. IsSet table width n y) (sym ei) (o.1 old))
            | inr given ↦ inr (ei, ej, given)
          ],
          λ s. w.1 (b.1 (elim s [ inl old ↦ inl (o.0 (subst (λ n. IsSet table width n y) ei old)) | inr given ↦ inr given.2 ])),
        )

    away : (i y : ℕ) → y / 64 < width → ((i ≡ x) × (y / 64 ≡ j) → ⊥) → IsSet (set table (x * width + j) word) width i y ↔ (IsSet table width i y ⊎ ((i ≡ x) × (y / 64 ≡ j) × Given (y % 64)))
    away i y hy apart =
        let e = IsSet-elsewhere table width x j word i y hj hy apart in
        (λ s. inl (e.0 s), λ s. elim s [ inl old ↦ e.1 old | inr given ↦ absurd (apart (given.0, given.1)) ])

    at : (i y : ℕ) → y / 64 < width → IsSet (set table (x * width + j) word) width i y ↔ (IsSet table width i y ⊎ ((i ≡ x) × (y / 64 ≡ j) × Given (y % 64)))
    at i y hy = elim (cases_eq i x) [
      | inl ei ↦ elim (cases_eq (y / 64) j) [ inl ej ↦ here i y ei ej | inr ne ↦ away i y hy (λ p. ne p.1) ]
      | inr ne ↦ away i y hy (λ p. ne p.0)
    ]

-- likewise of the same bits said in another way
pub Adds-iff : (old new : List ℕ) (width : ℕ) (Given Other : ℕ → ℕ → Type 0) → ((x y : ℕ) → Given x y ↔ Other x y) → Adds old new width Given → Adds old new width Other
Adds-iff old new width Given Other same adds = record {
  bits = λ x y h. (
    λ s. elim ((adds.bits x y h).0 s) [ inl o ↦ inl o | inr g ↦ inr ((same x y).0 g) ],
    λ s. (adds.bits x y h).1 (elim s [ inl o ↦ inl o | inr g ↦ inr ((same x y).1 g) ]),
  );
}

-- To write a word of row u without the bit of column v clears that bit.
pub Loses-written : (table : List ℕ) (width u v : ℕ) → v / 64 < width → u * width + v / 64 < length table →
    Loses table (set table (u * width + v / 64) (bit_and (get_or table (u * width + v / 64) 0) (bit_not w64 (1 * 2 ^ (v % 64) % 2 ^ 64)))) width u v
Loses-written table width u v hv h = record { bits = at }
  where
    word : ℕ
    word = get_or table (u * width + v / 64) 0

    new : List ℕ
    new = set table (u * width + v / 64) (bit_and word (bit_not w64 (1 * 2 ^ (v % 64) % 2 ^ 64)))

    here : (x y : ℕ) → x ≡ u → y / 64 ≡ v / 64 → IsSet new width x y ↔ (IsSet table width x y × ((x ≡ u) × (y ≡ v) → ⊥))
    here x y ex ey =
        let w = IsSet-written table width u (v / 64) (bit_and word (bit_not w64 (1 * 2 ^ (v % 64) % 2 ^ 64))) x y h ex ey in
        let c = HasBit-clear word (v % 64) (y % 64) (omega arith) (omega arith) in
        let o = subst (λ n. IsSet table width n y ↔ HasBit word (y % 64)) (sym ex) (IsSet-word table width u (v / 64) y ey) in (
          λ s. let b = c.0 (w.0 s) in (o.1 b.1, λ p. b.0 (omega (arith, p.1))),
          λ p. w.1 (c.1 (λ e. p.1 (ex, omega (arith, e, ey)), o.0 p.0)),
        )

    away : (x y : ℕ) → y / 64 < width → ((x ≡ u) × (y / 64 ≡ v / 64) → ⊥) → IsSet new width x y ↔ (IsSet table width x y × ((x ≡ u) × (y ≡ v) → ⊥))
    away x y hy apart =
        let e = IsSet-elsewhere table width u (v / 64) (bit_and word (bit_not w64 (1 * 2 ^ (v % 64) % 2 ^ 64))) x y hv hy apart in
        (λ s. (e.0 s, λ p. apart (p.0, omega (arith, p.1))), λ p. e.1 p.0)

    at : (x y : ℕ) → y / 64 < width → IsSet new width x y ↔ (IsSet table width x y × ((x ≡ u) × (y ≡ v) → ⊥))
    at x y hy = elim (cases_eq x u) [
      | inl ex ↦ elim (cases_eq (y / 64) (v / 64)) [ inl ey ↦ here x y ex ey | inr ne ↦ away x y hy (λ p. ne p.1) ]
      | inr ne ↦ away x y hy (λ p. ne p.0)
    ]

-- a table of words that are 0 has no bit
pub no_bit : (count width x y : ℕ) → IsSet (replicate count 0) width x y → ⊥
unfolding IsSet
no_bit count width x y s = elim (cases_lt (x * width + y / 64) count) [
  | inl h ↦ HasBit-zero (y % 64) (subst (λ n. HasBit n (y % 64)) (get_or-replicate count (x * width + y / 64) 0 0 h) s)
  | inr past ↦ HasBit-zero (y % 64) (subst (λ n. HasBit n (y % 64)) (get_or_past (replicate count 0) (x * width + y / 64) 0 (omega (arith, length-replicate {A = ℕ} count 0))) s)
]

-- a row that is cut out of a table has the numbers whose bits are set in the table's row
pub HasNumber-row : (table : List ℕ) (width count x v : ℕ) → count ≡ width → HasNumber (take count (drop (x * width) table)) v ↔ ((v / 64 < width) × IsSet table width x v)
unfolding IsSet
HasNumber-row table width count x v e = (to, back)
  where
    word : v / 64 < count → get_or (take count (drop (x * width) table)) (v / 64) 0 ≡ get_or table (x * width + v / 64) 0
    word h = get_or-take count (drop (x * width) table) (v / 64) 0 h ∙ get_or-drop (x * width) table (v / 64) 0

    to : HasBit (get_or (take count (drop (x * width) table)) (v / 64) 0) (v % 64) → (v / 64 < width) × HasBit (get_or table (x * width + v / 64) 0) (v % 64)
    to b = elim (cases_lt (v / 64) count) [
      | inl h ↦ (subst (λ n. v / 64 < n) e h, subst (λ n. HasBit n (v % 64)) (word h) b)
      | inr past ↦ absurd (HasBit-zero (v % 64) (subst (λ n. HasBit n (v % 64))
          (get_or_past (take count (drop (x * width) table)) (v / 64) 0 (omega (arith, length-take count (drop (x * width) table)))) b))
    ]

    back : (v / 64 < width) × HasBit (get_or table (x * width + v / 64) 0) (v % 64) → HasBit (get_or (take count (drop (x * width) table)) (v / 64) 0) (v % 64)
    back p = subst (λ n. HasBit n (v % 64)) (sym (word (subst (λ n. v / 64 < n) (sym e) p.0))) p.1

-- Of the bits given to the old table, the table now has all but some of those left.
pub record Leaves (old now : List ℕ) (width : ℕ) (Given Left : ℕ → ℕ → Type 0) : Type 0 where
  pub bits : (x y : ℕ) → y / 64 < width → (IsSet old width x y ⊎ Given x y) ↔ (IsSet now width x y ⊎ Left x y)
  pub kept : (x y : ℕ) → y / 64 < width → IsSet old width x y → IsSet now width x y

-- at first all are left
pub Leaves-start : (old : List ℕ) (width : ℕ) (Given Left : ℕ → ℕ → Type 0) → ((x y : ℕ) → y / 64 < width → Given x y ↔ Left x y) → Leaves old old width Given Left
Leaves-start old width Given Left same = record {
  bits = λ x y h. (
    λ s. elim s [ inl o ↦ inl o | inr g ↦ inr ((same x y h).0 g) ],
    λ s. elim s [ inl o ↦ inl o | inr l ↦ inr ((same x y h).1 l) ],
  );
  kept = λ x y h s. s;
}

-- a table that has bits added has those it had
pub Adds-kept : (old new : List ℕ) (width : ℕ) (Given : ℕ → ℕ → Type 0) → Adds old new width Given → (x y : ℕ) → y / 64 < width → IsSet old width x y → IsSet new width x y
Adds-kept old new width Given adds x y h s = (adds.bits x y h).1 (inl s)

-- some of those that are left are added
pub Leaves-step : (old now new : List ℕ) (width : ℕ) (Given Left Added Less : ℕ → ℕ → Type 0) → Leaves old now width Given Left → Adds now new width Added →
    ((x y : ℕ) → y / 64 < width → Left x y → IsSet now width x y ⊎ (Added x y ⊎ Less x y)) →
    ((x y : ℕ) → y / 64 < width → Added x y → Left x y) → ((x y : ℕ) → y / 64 < width → Less x y → Left x y) → Leaves old new width Given Less
Leaves-step old now new width Given Left Added Less leaves adds split added less = record {
  bits = λ x y h. (to x y h, back x y h);
  kept = λ x y h s. Adds-kept now new width Added adds x y h (leaves.kept x y h s);
}
  where
    to : (x y : ℕ) → y / 64 < width → IsSet old width x y ⊎ Given x y → IsSet new width x y ⊎ Less x y
    to x y h s = elim ((leaves.bits x y h).0 s) [
      | inl now_set ↦ inl (Adds-kept now new width Added adds x y h now_set)
      | inr left ↦ elim (split x y h left) [
        | inl now_set ↦ inl (Adds-kept now new width Added adds x y h now_set)
        | inr (inl add) ↦ inl ((adds.bits x y h).1 (inr add))
        | inr (inr rest) ↦ inr rest
      ]
    ]

    back : (x y : ℕ) → y / 64 < width → IsSet new width x y ⊎ Less x y → IsSet old width x y ⊎ Given x y
    back x y h (inl new_set) = elim ((adds.bits x y h).0 new_set) [
      | inl now_set ↦ (leaves.bits x y h).1 (inl now_set)
      | inr add ↦ (leaves.bits x y h).1 (inr (added x y h add))
    ]
    back x y h (inr rest) = (leaves.bits x y h).1 (inr (less x y h rest))

-- at last none is left
pub Leaves-end : (old now : List ℕ) (width : ℕ) (Given Left : ℕ → ℕ → Type 0) → Leaves old now width Given Left → ((x y : ℕ) → y / 64 < width → Left x y → ⊥) → Adds old now width Given
Leaves-end old now width Given Left leaves none = record {
  bits = λ x y h. (
    λ s. (leaves.bits x y h).1 (inl s),
    λ s. elim ((leaves.bits x y h).0 s) [ inl set ↦ set | inr left ↦ absurd (none x y h left) ],
  );
}

-- a row below `nodes` lies in a table of `nodes` rows
pub row_within : (x nodes width : ℕ) → x < nodes → x * width + width ≤ nodes * width
row_within x nodes width h = row_fits x width nodes width h (omega arith)

-- Numbers below `nodes` have their bits within rows of this width.
pub column_within : (y nodes width : ℕ) → width ≡ (nodes + 63) / 64 → y < nodes → y / 64 < width
column_within y nodes width fits h = omega arith

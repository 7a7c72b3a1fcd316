-- Rows that are lowered, and numbers that are marked.
use Rattle.std.proofs.Common.{◌≡◌, ◌⊎◌, ◌↔◌, inl, inr, ℕ, ◌+◌, ◌*◌, ◌/◌, ◌%◌, ◌<◌, ◌≤◌, min, List, length, get_or, sym, subst, refl, ◌∙◌, arith}
use Rattle.std.proofs.lemmas.Bool.{cases_eq, cases_lt}
use Rattle.std.proofs.lemmas.Nat.{row_fits}
use Rattle.bitsets.specs.Rows.{HasBit, HasNumber}
use Rattle.bitsets.specs.Tables.{IsSet, Adds}
use Rattle.bitsets.proofs.RowFacts.{HasNumber-within}
use Rattle.bitsets.proofs.TableFacts.{IsSet-word}
use Rattle.chain_reach.specs.Internal.FirstTables.{LowersRows, MarksRows}

-- The d items from `start` on were lowered to what is given.
pub record Lowered (old now given : List ℕ) (start d : ℕ) : Type 0 where
  pub sized : length now ≡ length old
  pub done : (k : ℕ) → k < d → get_or now (start + k) 0 ≡ min (get_or old (start + k) 0) (get_or given k 0)
  pub same : (p : ℕ) → (p < start) ⊎ (start + d ≤ p) → get_or now p 0 ≡ get_or old p 0

-- a place of another row is before a row or after it
apart : (x z count d : ℕ) → d < count → (z ≡ x → ⊥) → (z * count + d < x * count) ⊎ (x * count + count ≤ z * count + d)
apart x z count d low ne = elim (cases_lt z x) [
  | inl less ↦ inl (let fits : z * count + count ≤ x * count = row_fits z count x count less (omega arith) in omega (arith, fits, low))
  | inr more ↦ inr (let fits : x * count + count ≤ z * count = row_fits x count z count (omega (arith, more, ne)) (omega arith) in omega (arith, fits))
]

pub Lowered-row : (old now given : List ℕ) (x count : ℕ) → Lowered old now given (x * count) count → LowersRows old now count given (λ z. z ≡ x)
Lowered-row old now given x count is = record { sized = is.sized; lowered = at }
  where
    at : (z d y : ℕ) → d < count → (get_or now (z * count + d) 0 ≤ y) ↔ ((get_or old (z * count + d) 0 ≤ y) ⊎ ((z ≡ x) × (get_or given d 0 ≤ y)))
    at z d y low = elim (cases_eq z x) [
      | inl e ↦ (let least : get_or now (z * count + d) 0 ≡ min (get_or old (z * count + d) 0) (get_or given d 0) =
          subst (λ n. get_or now (n * count + d) 0 ≡ min (get_or old (n * count + d) 0) (get_or given d 0)) (sym e) (is.done d low) in (
            λ le. elim (cases_lt y (get_or old (z * count + d) 0)) [
              | inl more ↦ inr (e, omega (arith, least, le, more))
              | inr less ↦ inl less
            ],
            λ either. elim either [ inl less ↦ omega (arith, least, less) | inr both ↦ (let less = both.1 in omega (arith, least, less)) ],
          ))
      | inr ne ↦ (let same : get_or now (z * count + d) 0 ≡ get_or old (z * count + d) 0 = is.same (z * count + d) (apart x z count d low ne) in (
        λ le. inl (omega (arith, same, le)),
        λ either. elim either [ inl less ↦ omega (arith, same, less) | inr both ↦ absurd (ne both.0) ],
      ))
    ]

-- nothing was lowered
pub LowersRows-none : (old given : List ℕ) (count : ℕ) (P : ℕ → Type 0) → ((x : ℕ) → P x → ⊥) → LowersRows old old count given P
LowersRows-none old given count P none = record {
  sized = refl;
  lowered = λ x d y low. (λ le. inl le, λ either. elim either [ inl le ↦ le | inr both ↦ absurd (none x both.0) ]);
}

-- rows were lowered, and then others
pub LowersRows-then : (old now new given : List ℕ) (count : ℕ) (P Q R : ℕ → Type 0) → LowersRows old now count given P → LowersRows now new count given Q →
    ((x : ℕ) → R x ↔ (P x ⊎ Q x)) → LowersRows old new count given R
LowersRows-then old now new given count P Q R first second both = record {
  sized = second.sized ∙ first.sized;
  lowered = λ x d y low. (
    λ le. elim ((second.lowered x d y low).0 le) [
      | inl now_le ↦ elim ((first.lowered x d y low).0 now_le) [
        | inl old_le ↦ inl old_le
        | inr p ↦ inr ((both x).1 (inl p.0), p.1)
      ]
      | inr q ↦ inr ((both x).1 (inr q.0), q.1)
    ],
    λ either. elim either [
      | inl old_le ↦ (second.lowered x d y low).1 (inl ((first.lowered x d y low).1 (inl old_le)))
      | inr r ↦ elim ((both x).0 r.0) [
        | inl p ↦ (second.lowered x d y low).1 (inl ((first.lowered x d y low).1 (inr (p, r.1))))
        | inr q ↦ (second.lowered x d y low).1 (inr (q, r.1))
      ]
    ],
  );
}

-- by an equivalent choice
pub LowersRows-as : (old new given : List ℕ) (count : ℕ) (P Q : ℕ → Type 0) → LowersRows old new count given P → ((x : ℕ) → Q x ↔ P x) → LowersRows old new count given Q
LowersRows-as old new given count P Q is same = record {
  sized = is.sized;
  lowered = λ x d y low. (
    λ le. elim ((is.lowered x d y low).0 le) [ inl old_le ↦ inl old_le | inr p ↦ inr ((same x).1 p.0, p.1) ],
    λ either. (is.lowered x d y low).1 (elim either [ inl old_le ↦ inl old_le | inr q ↦ inr ((same x).0 q.0, q.1) ]),
  );
}

pub MarksRows-none : (old : List ℕ) (P : ℕ → Type 0) → ((x : ℕ) → P x → ⊥) → MarksRows old old P
MarksRows-none old P none = record {
  sized = refl;
  marked = λ x. (λ is. inl is, λ either. elim either [ inl is ↦ is | inr p ↦ absurd (none x p) ]);
}

-- the numbers of a row of bits are those of a table of that row
set_number : (row : List ℕ) (width y : ℕ) → IsSet row width 0 y ↔ HasNumber row y
set_number row width y =
    let set = IsSet-word row width 0 (y / 64) y refl in
    let same : 0 * width + y / 64 ≡ y / 64 = omega arith in (
      λ is. subst (λ n. HasBit (get_or row n 0) (y % 64)) same (set.0 is),
      λ has. set.1 (subst (λ n. HasBit (get_or row n 0) (y % 64)) (sym same) has),
    )

pub MarksRows-set : (old new : List ℕ) (x : ℕ) → length new ≡ length old → Adds old new (length old) (λ i j. (i ≡ 0) × (j ≡ x)) → x / 64 < length old → MarksRows old new (λ z. z ≡ x)
MarksRows-set old new x sized adds within = record { sized = sized; marked = at }
  where
    at : (y : ℕ) → HasNumber new y ↔ (HasNumber old y ⊎ (y ≡ x))
    at y = (
      λ has. (let low = HasNumber-within new y has in elim ((adds.bits 0 y (omega (arith, low, sized))).0 ((set_number new (length old) y).1 has)) [
        | inl was ↦ inl ((set_number old (length old) y).0 was)
        | inr here ↦ inr here.1
      ]),
      λ either. elim either [
        | inl was ↦ (set_number new (length old) y).0 ((adds.bits 0 y (HasNumber-within old y was)).1 (inl ((set_number old (length old) y).1 was)))
        | inr e ↦ (set_number new (length old) y).0 ((adds.bits 0 y (subst (λ n. n / 64 < length old) (sym e) within)).1 (inr (refl, e)))
      ],
    )

pub MarksRows-then : (old now new : List ℕ) (P Q R : ℕ → Type 0) → MarksRows old now P → MarksRows now new Q → ((x : ℕ) → R x ↔ (P x ⊎ Q x)) → MarksRows old new R
MarksRows-then old now new P Q R first second both = record {
  sized = second.sized ∙ first.sized;
  marked = λ x. (
    λ is. elim ((second.marked x).0 is) [
      | inl was ↦ elim ((first.marked x).0 was) [ inl before ↦ inl before | inr p ↦ inr ((both x).1 (inl p)) ]
      | inr q ↦ inr ((both x).1 (inr q))
    ],
    λ either. (second.marked x).1 (elim either [
      | inl before ↦ inl ((first.marked x).1 (inl before))
      | inr r ↦ elim ((both x).0 r) [ inl p ↦ inl ((first.marked x).1 (inr p)) | inr q ↦ inr q ]
    ]),
  );
}

pub MarksRows-as : (old new : List ℕ) (P Q : ℕ → Type 0) → MarksRows old new P → ((x : ℕ) → Q x ↔ P x) → MarksRows old new Q
MarksRows-as old new P Q is same = record {
  sized = is.sized;
  marked = λ x. (
    λ now. elim ((is.marked x).0 now) [ inl was ↦ inl was | inr p ↦ inr ((same x).1 p) ],
    λ either. (is.marked x).1 (elim either [ inl was ↦ inl was | inr q ↦ inr ((same x).0 q) ]),
  );
}

-- The first d items of a row were written.
pub record Copied (table given : List ℕ) (start d : ℕ) : Type 0 where
  pub done : (k : ℕ) → k < d → get_or given k 0 ≡ get_or table (start + k) 0

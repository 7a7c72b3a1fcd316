-- Rows that gain the columns of other rows, word by word.
use Rattle.std.proofs.Common.{◌≡◌, ◌↔◌, inl, inr, ℕ, ◌+◌, ◌*◌, ◌/◌, ◌%◌, ◌<◌, ◌≤◌, List, get_or, sym, subst, arith}
use Rattle.std.specs.Prelude.{bit_and, bit_or}
use Rattle.std.proofs.lemmas.Bool.{cases_eq}
use Rattle.bitsets.specs.Rows.{HasBit}
use Rattle.bitsets.specs.Tables.{IsSet, Adds}
use Rattle.bitsets.proofs.FillFacts.{RowsFrom}
use Rattle.order_graph.specs.Internal.Tracks.{IsNext, IsUnseen}
use Rattle.bitsets.proofs.WordFacts.{HasBit-zero, HasBit-or, HasBit-and}
use Rattle.bitsets.proofs.TableFacts.{IsSet-word, Leaves, Leaves-start, Leaves-step, Leaves-end}

-- what edges lead to from the numbers of a level from word i on
abbrev pub NextFrom : List ℕ → List ℕ → ℕ → ℕ → ℕ → ℕ → ℕ → ℕ → Type 0
NextFrom edges levels width count first i r y = (r ≡ 0) × (first ≤ y / 64) × IsNext edges levels width count i y

pub NextFrom-start : (old edges levels : List ℕ) (width count first : ℕ) → Leaves old old width (NextFrom edges levels width count first first) (NextFrom edges levels width count first first)
NextFrom-start old edges levels width count first = Leaves-start old width _ _ (λ r y h. (λ p. p, λ p. p))

pub NextFrom-step : (old now new edges levels : List ℕ) (width count first i : ℕ) → first ≤ i → i < width → Leaves old now width (NextFrom edges levels width count first first) (NextFrom edges levels width count first i) →
    Adds now new width (RowsFrom edges width 0 i first (get_or levels (count * width + i) 0)) →
    Leaves old new width (NextFrom edges levels width count first first) (NextFrom edges levels width count first (i + 1))
NextFrom-step old now new edges levels width count first i from within leaves adds = Leaves-step old now new width _ _ _ _ leaves adds
    (λ r y h p. let x : ℕ = p.2.0 in
    elim (cases_eq (x / 64) i) [
      | inl e ↦ inr (inl (p.0, p.1, (x, e, (IsSet-word levels width count i x e).0 p.2.3, p.2.4)))
      | inr ne ↦ inr (inr (p.0, p.1, (x, omega (arith, p.2.1, ne), p.2.2, p.2.3, p.2.4)))
    ])
    (λ r y h p. let x : ℕ = p.2.0 in
    let e : x / 64 ≡ i = p.2.1 in
    (p.0, p.1, (x, omega arith, omega arith, (IsSet-word levels width count i x e).1 p.2.2, p.2.3)))
    (λ r y h p. let x : ℕ = p.2.0 in (p.0, p.1, (x, omega (arith, p.2.1), p.2.2, p.2.3, p.2.4)))

pub NextFrom-end : (old now edges levels : List ℕ) (width count first i : ℕ) → width ≤ i → Leaves old now width (NextFrom edges levels width count first first) (NextFrom edges levels width count first i) →
    Adds old now width (NextFrom edges levels width count first first)
NextFrom-end old now edges levels width count first i past leaves = Leaves-end old now width _ _ leaves (λ r y h p. omega (arith, p.2.1, p.2.2))

-- the numbers reached that lead to the start, and of them those that weren't seen, from word j on
abbrev pub SeenFrom : List ℕ → List ℕ → ℕ → ℕ → ℕ → ℕ → ℕ → Type 0
SeenFrom reached transposed width start j i y = (i ≡ 0) × (j ≤ y / 64) × IsSet reached width 0 y × IsSet transposed width start y

abbrev pub FreshFrom : List ℕ → List ℕ → List ℕ → ℕ → ℕ → ℕ → ℕ → ℕ → ℕ → Type 0
FreshFrom reached transposed seen width start row j i y = (i ≡ row) × (j ≤ y / 64) × IsUnseen reached transposed seen width start y

-- The words before word j are filled; `all` has the bits of the fresh numbers in them.
pub record Advances (reached transposed old_seen seen old_levels levels : List ℕ) (width start row first j all : ℕ) : Type 0 where
  pub from : first ≤ j
  pub seen_leaves : Leaves old_seen seen width (SeenFrom reached transposed width start first) (SeenFrom reached transposed width start j)
  pub level_leaves : Leaves old_levels levels width (FreshFrom reached transposed old_seen width start row first) (FreshFrom reached transposed old_seen width start row j)
  pub later : (y : ℕ) → y / 64 < width → j ≤ y / 64 → IsSet seen width 0 y → IsSet old_seen width 0 y
  pub some : (y : ℕ) → y / 64 < j → first ≤ y / 64 → IsUnseen reached transposed old_seen width start y → HasBit all (y % 64)

pub Advances-start : (reached transposed seen levels : List ℕ) (width start row first : ℕ) → Advances reached transposed seen seen levels levels width start row first first 0
Advances-start reached transposed seen levels width start row first = record {
  from = omega arith;
  seen_leaves = Leaves-start seen width _ _ (λ i y h. (λ p. p, λ p. p));
  level_leaves = Leaves-start levels width _ _ (λ i y h. (λ p. p, λ p. p));
  later = λ y h l s. s;
  some = λ y h l p. absurd (omega (arith, h, l));
}

pub Advances-step : (reached transposed old_seen seen new_seen old_levels levels new_levels : List ℕ) (width start row first j all given fresh : ℕ) →
    Advances reached transposed old_seen seen old_levels levels width start row first j all → j < width →
    given ≡ bit_and (get_or reached j 0) (get_or transposed (start * width + j) 0) →
    Adds seen new_seen width (λ i y. (i ≡ 0) × (y / 64 ≡ j) × HasBit given (y % 64)) →
    ((y : ℕ) → y / 64 ≡ j → HasBit fresh (y % 64) ↔ (HasBit given (y % 64) × (IsSet seen width 0 y → ⊥))) →
    Adds levels new_levels width (λ i y. (i ≡ row) × (y / 64 ≡ j) × HasBit fresh (y % 64)) →
    Advances reached transposed old_seen new_seen old_levels new_levels width start row first (j + 1) (bit_or all fresh)
Advances-step reached transposed old_seen seen new_seen old_levels levels new_levels width start row first j all given fresh advances within same sees news fills = record {
  from = omega (arith, advances.from);
  seen_leaves = Leaves-step old_seen seen new_seen width _ _ _ _ advances.seen_leaves sees
      (λ i y h p. elim (cases_eq (y / 64) j) [
        | inl e ↦ inr (inl (p.0, e, (given_is y e).1 (p.2, p.3)))
        | inr ne ↦ inr (inr (p.0, omega (arith, p.1, ne), p.2, p.3))
      ])
      (λ i y h p. let g = (given_is y p.1).0 p.2 in (p.0, omega (arith, p.1), g.0, g.1))
      (λ i y h p. (p.0, omega (arith, p.1), p.2, p.3));
  level_leaves = Leaves-step old_levels levels new_levels width _ _ _ _ advances.level_leaves fills
      (λ i y h p. elim (cases_eq (y / 64) j) [
        | inl e ↦ inr (inl (p.0, e, (fresh_is y h e).1 p.2))
        | inr ne ↦ inr (inr (p.0, omega (arith, p.1, ne), p.2))
      ])
      (λ i y h p. (p.0, omega (arith, p.1), (fresh_is y h p.1).0 p.2))
      (λ i y h p. (p.0, omega (arith, p.1), p.2));
  later = λ y h l s. elim ((sees.bits 0 y h).0 s) [
    | inl o ↦ advances.later y h (omega (arith, l)) o
    | inr g ↦ absurd (omega (arith, g.1, l))
  ];
  some = λ y h l p. elim (cases_eq (y / 64) j) [
    | inl e ↦ (HasBit-or all fresh (y % 64)).1 (inr ((fresh_is y (omega (arith, e, within)) e).1 p))
    | inr ne ↦ (HasBit-or all fresh (y % 64)).1 (inl (advances.some y (omega (arith, h, ne)) l p))
  ];
}
  where
    given_is : (y : ℕ) → y / 64 ≡ j → HasBit given (y % 64) ↔ (IsSet reached width 0 y × IsSet transposed width start y)
    given_is y e =
        let both = HasBit-and (get_or reached j 0) (get_or transposed (start * width + j) 0) (y % 64) in
        let zero : 0 * width + j ≡ j = omega arith in
        let r = subst (λ n. IsSet reached width 0 y ↔ HasBit (get_or reached n 0) (y % 64)) zero (IsSet-word reached width 0 j y e) in
        let t = IsSet-word transposed width start j y e in (
          λ b. let p = both.0 (subst (λ n. HasBit n (y % 64)) same b) in (r.1 p.0, t.1 p.1),
          λ p. subst (λ n. HasBit n (y % 64)) (sym same) (both.1 (r.0 p.0, t.0 p.1)),
        )

    fresh_is : (y : ℕ) → y / 64 < width → y / 64 ≡ j → HasBit fresh (y % 64) ↔ IsUnseen reached transposed old_seen width start y
    fresh_is y h e = (
      λ b. let p = (news y e).0 b in let g = (given_is y e).0 p.0 in (g.0, g.1, λ s. p.1 (advances.seen_leaves.kept 0 y h s)),
      λ p. (news y e).1 ((given_is y e).1 (p.0, p.1), λ s. p.2 (advances.later y h (omega (arith, e)) s)),
    )

pub Advances-level : (reached transposed old_seen seen old_levels levels : List ℕ) (width start row first j all : ℕ) → width ≤ j → Advances reached transposed old_seen seen old_levels levels width start row first j all →
    Adds old_levels levels width (FreshFrom reached transposed old_seen width start row first)
Advances-level reached transposed old_seen seen old_levels levels width start row first j all past advances =
    Leaves-end old_levels levels width _ _ advances.level_leaves (λ i y h p. omega (arith, p.1, h))

pub Advances-seen : (reached transposed old_seen seen old_levels levels : List ℕ) (width start row first j all : ℕ) → width ≤ j → Advances reached transposed old_seen seen old_levels levels width start row first j all →
    Adds old_seen seen width (SeenFrom reached transposed width start first)
Advances-seen reached transposed old_seen seen old_levels levels width start row first j all past advances =
    Leaves-end old_seen seen width _ _ advances.seen_leaves (λ i y h p. omega (arith, p.1, h))

-- where no bit of a fresh number was met, no number is fresh
pub Advances-some : (reached transposed old_seen seen old_levels levels : List ℕ) (width start row first j : ℕ) → width ≤ j → Advances reached transposed old_seen seen old_levels levels width start row first j 0 →
    (y : ℕ) → y / 64 < width → first ≤ y / 64 → IsUnseen reached transposed old_seen width start y → ⊥
Advances-some reached transposed old_seen seen old_levels levels width start row first j past advances y h l p = HasBit-zero (y % 64) (advances.some y (omega (arith, h, past)) l p)

-- the numbers from word j on that x has an edge to, that reach x, and that a row has
abbrev pub ClosedFrom : List ℕ → List ℕ → List ℕ → ℕ → ℕ → ℕ → ℕ → ℕ → Type 0
ClosedFrom edges transposed upto width x j i y = (i ≡ 0) × (j ≤ y / 64) × IsSet edges width x y × IsSet transposed width x y × IsSet upto width 0 y

pub ClosedFrom-start : (old edges transposed upto : List ℕ) (width x : ℕ) → Leaves old old width (λ i y. (i ≡ 0) × IsSet edges width x y × IsSet transposed width x y × IsSet upto width 0 y) (ClosedFrom edges transposed upto width x 0)
ClosedFrom-start old edges transposed upto width x = Leaves-start old width _ _ (λ i y h. (λ p. (p.0, omega arith, p.1, p.2, p.3), λ p. (p.0, p.2, p.3, p.4)))

pub ClosedFrom-step : (old now new edges transposed upto : List ℕ) (width x j given : ℕ) →
    Leaves old now width (λ i y. (i ≡ 0) × IsSet edges width x y × IsSet transposed width x y × IsSet upto width 0 y) (ClosedFrom edges transposed upto width x j) →
    given ≡ bit_and (bit_and (get_or edges (x * width + j) 0) (get_or transposed (x * width + j) 0)) (get_or upto j 0) →
    Adds now new width (λ i y. (i ≡ 0) × (y / 64 ≡ j) × HasBit given (y % 64)) →
    Leaves old new width (λ i y. (i ≡ 0) × IsSet edges width x y × IsSet transposed width x y × IsSet upto width 0 y) (ClosedFrom edges transposed upto width x (j + 1))
ClosedFrom-step old now new edges transposed upto width x j given leaves same adds = Leaves-step old now new width _ _ _ _ leaves adds
    (λ i y h p. elim (cases_eq (y / 64) j) [
      | inl e ↦ inr (inl (p.0, e, (given_is y e).1 (p.2, p.3, p.4)))
      | inr ne ↦ inr (inr (p.0, omega (arith, p.1, ne), p.2, p.3, p.4))
    ])
    (λ i y h p. let g = (given_is y p.1).0 p.2 in (p.0, omega (arith, p.1), g.0, g.1, g.2))
    (λ i y h p. (p.0, omega (arith, p.1), p.2, p.3, p.4))
  where
    given_is : (y : ℕ) → y / 64 ≡ j → HasBit given (y % 64) ↔ (IsSet edges width x y × IsSet transposed width x y × IsSet upto width 0 y)
    given_is y e =
        let all = HasBit-and (bit_and (get_or edges (x * width + j) 0) (get_or transposed (x * width + j) 0)) (get_or upto j 0) (y % 64) in
        let both = HasBit-and (get_or edges (x * width + j) 0) (get_or transposed (x * width + j) 0) (y % 64) in
        let zero : 0 * width + j ≡ j = omega arith in
        let u = subst (λ n. IsSet upto width 0 y ↔ HasBit (get_or upto n 0) (y % 64)) zero (IsSet-word upto width 0 j y e) in
        let s = IsSet-word edges width x j y e in
        let t = IsSet-word transposed width x j y e in (
          λ b. let p = all.0 (subst (λ n. HasBit n (y % 64)) same b) in let q = both.0 p.0 in (s.1 q.0, t.1 q.1, u.1 p.1),
          λ p. subst (λ n. HasBit n (y % 64)) (sym same) (all.1 (both.1 (s.0 p.0, t.0 p.1), u.0 p.2)),
        )

pub ClosedFrom-end : (old now edges transposed upto : List ℕ) (width x : ℕ) →
    Leaves old now width (λ i y. (i ≡ 0) × IsSet edges width x y × IsSet transposed width x y × IsSet upto width 0 y) (ClosedFrom edges transposed upto width x width) →
    Adds old now width (λ i y. (i ≡ 0) × IsSet edges width x y × IsSet transposed width x y × IsSet upto width 0 y)
ClosedFrom-end old now edges transposed upto width x leaves = Leaves-end old now width _ _ leaves (λ i y h p. omega (arith, p.1, h))

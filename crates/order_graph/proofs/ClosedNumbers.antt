-- The row of the numbers that an edge closes a cycle at, number by number.
use Rattle.std.proofs.Common.{◌≡◌, ◌↔◌, inl, inr, ℕ, ◌+◌, ◌/◌, ◌<◌, ◌≤◌, List, length, replicate, refl, ap, subst, ◌∙◌, arith}
use Rattle.std.proofs.lemmas.Bool.{cases_eq}
use Rattle.std.proofs.lemmas.List.{length-replicate}
use Rattle.bitsets.specs.Tables.{IsSet, Adds}
use Rattle.order_graph.specs.Internal.KeptPaths.{KeepsAllPaths}
use Rattle.order_graph.specs.Internal.Tracks.{IsClosedNumber}
use Rattle.bitsets.proofs.TableFacts.{no_bit}
use Rattle.order_graph.proofs.ShortCycles.{IsClosedNumber-from}

-- likewise by an edge from a number below x
abbrev pub IsClosedBefore : List ℕ → List ℕ → ℕ → ℕ → ℕ → Type 0
IsClosedBefore edges transposed width x y = (z : ℕ) × (z < x) × IsSet edges width z y × IsSet transposed width z y × (y ≤ z)

-- The one row has the numbers closed by edges from numbers below x, and the other the numbers below x.
pub record Notes (edges transposed row upto : List ℕ) (width x : ℕ) : Type 0 where
  pub row_sized : length row ≡ width
  pub upto_sized : length upto ≡ width
  pub noted : (y : ℕ) → y / 64 < width → IsSet row width 0 y ↔ IsClosedBefore edges transposed width x y
  pub below : (y : ℕ) → y / 64 < width → IsSet upto width 0 y ↔ (y < x)

pub Notes-start : (edges transposed row upto : List ℕ) (width : ℕ) → row ≡ replicate width 0 → upto ≡ replicate width 0 → Notes edges transposed row upto width 0
Notes-start edges transposed row upto width row_is upto_is = record {
  row_sized = ap length row_is ∙ length-replicate {A = ℕ} width 0;
  upto_sized = ap length upto_is ∙ length-replicate {A = ℕ} width 0;
  noted = λ y h. (λ s. absurd (no_bit width width 0 y (subst (λ l. IsSet l width 0 y) row_is s)), λ p. absurd (omega (arith, p.1)));
  below = λ y h. (λ s. absurd (no_bit width width 0 y (subst (λ l. IsSet l width 0 y) upto_is s)), λ p. absurd (omega (arith, p)));
}

-- the row of the numbers below x with x itself
with_next : (upto next : List ℕ) (width x : ℕ) → ((y : ℕ) → y / 64 < width → IsSet upto width 0 y ↔ (y < x)) → Adds upto next width (λ i j. (i ≡ 0) × (j ≡ x)) →
    (y : ℕ) → y / 64 < width → IsSet next width 0 y ↔ (y < x + 1)
with_next upto next width x below adds y h = (
  λ s. elim ((adds.bits 0 y h).0 s) [ inl o ↦ omega (arith, (below y h).0 o) | inr g ↦ omega (arith, g.1) ],
  λ less. (adds.bits 0 y h).1 (elim (cases_eq y x) [ inl e ↦ inr (refl, e) | inr ne ↦ inl ((below y h).1 (omega (arith, less, ne))) ]),
)

pub Notes-add : (edges transposed row upto more next : List ℕ) (width x : ℕ) → Notes edges transposed row upto width x → length more ≡ length row → length next ≡ length upto →
    Adds upto next width (λ i j. (i ≡ 0) × (j ≡ x)) →
    Adds row more width (λ i y. (i ≡ 0) × IsSet edges width x y × IsSet transposed width x y × IsSet next width 0 y) → Notes edges transposed more next width (x + 1)
Notes-add edges transposed row upto more next width x notes more_sized next_sized steps adds =
    let fresh = with_next upto next width x notes.below steps in
    record {
      row_sized = more_sized ∙ notes.row_sized;
      upto_sized = next_sized ∙ notes.upto_sized;
      noted = λ y h. (
        λ s. elim ((adds.bits 0 y h).0 s) [
          | inl o ↦ (let p = (notes.noted y h).0 o in (p.0, omega (arith, p.1), p.2, p.3, p.4))
          | inr g ↦ (x, omega arith, g.1, g.2, omega (arith, (fresh y h).0 g.3))
        ],
        λ p. (adds.bits 0 y h).1 (elim (cases_eq p.0 x) [
          | inl e ↦ inr (refl, subst (λ n. IsSet edges width n y) e p.2, subst (λ n. IsSet transposed width n y) e p.3, (fresh y h).1 (omega (arith, p.1, p.4)))
          | inr ne ↦ inl ((notes.noted y h).1 (p.0, omega (arith, p.1, ne), p.2, p.3, p.4))
        ]),
      );
      below = fresh;
    }

-- a number that is on no cycle closes none
pub Notes-skip : (nodes width : ℕ) (edges paths transposed row upto next : List ℕ) (x : ℕ) → KeepsAllPaths nodes width edges paths transposed → x < nodes → (IsSet paths width x x → ⊥) →
    Notes edges transposed row upto width x → length next ≡ length upto → Adds upto next width (λ i j. (i ≡ 0) × (j ≡ x)) → Notes edges transposed row next width (x + 1)
Notes-skip nodes width edges paths transposed row upto next x keeps hx none notes next_sized steps =
    let fresh = with_next upto next width x notes.below steps in
    record {
      row_sized = notes.row_sized;
      upto_sized = next_sized ∙ notes.upto_sized;
      noted = λ y h. (
        λ s. let p = (notes.noted y h).0 s in (p.0, omega (arith, p.1), p.2, p.3, p.4),
        λ p. elim (cases_eq p.0 x) [
          | inl e ↦ (let s = subst (λ n. IsSet edges width n y) e p.2 in
              absurd (none (IsClosedNumber-from nodes width edges paths transposed x y keeps hx (keeps.edges_within x y hx h s) s (subst (λ n. IsSet transposed width n y) e p.3))))
          | inr ne ↦ (notes.noted y h).1 (p.0, omega (arith, p.1, ne), p.2, p.3, p.4)
        ],
      );
      below = fresh;
    }

pub Notes-end : (edges transposed row upto : List ℕ) (width nodes x : ℕ) → Notes edges transposed row upto width x → x ≡ nodes →
    (length row ≡ width) × ((y : ℕ) → y / 64 < width → IsSet row width 0 y ↔ IsClosedNumber edges transposed width nodes y)
Notes-end edges transposed row upto width nodes x notes end = (notes.row_sized, subst (λ n. (y : ℕ) → y / 64 < width → IsSet row width 0 y ↔ IsClosedNumber edges transposed width n y) end notes.noted)

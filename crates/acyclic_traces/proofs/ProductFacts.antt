-- Lemmas on pairs of each of some numbers with each of others.
use Rattle.std.proofs.Common.{◌≡◌, ◌≢◌, ◌⊎◌, ◌↔◌, inl, inr, ℕ, ◌-◌, ◌^◌, ◌<◌, List, length, get_or, set, refl, sym, subst, arith}
use Rattle.std.specs.Int.{trailing_zeros, w64}
use Rattle.std.specs.Prelude.{bit_and, bit_or}
use Rattle.std.proofs.lemmas.Bool.{cases_eq}
use Rattle.std.proofs.lemmas.List.{get_or-set_same, get_or-set_other}
use Rattle.bitsets.specs.Rows.{HasBit}
use Rattle.bitsets.proofs.WordFacts.{HasBit-zero, HasBit-or, HasBit-drop, HasBit-lowest}
use Rattle.acyclic_traces.specs.Internal.Pairs.{HasPair, AreTransposed}

-- The numbers of `from` that aren't left were given pairs with those of `to`.
pub record GivesProduct (old new : List ℕ) (from to left : ℕ) : Type 0 where
  pub within : (x : ℕ) → HasBit left x → HasBit from x
  pub pairs : (x v : ℕ) → HasPair new x v ↔ (HasPair old x v ⊎ ((HasBit from x × (HasBit left x → ⊥)) × HasBit to v))

pub product_none : (rows : List ℕ) (from to : ℕ) → GivesProduct rows rows from to from
product_none rows from to = record {
  within = λ x bit. bit;
  pairs = λ x v. (
    λ has. inl has,
    λ given. elim given [
      | inl has ↦ has
      | inr new ↦ absurd (new.0.1 new.0.0)
    ],
  );
}

pub product_more : (old rows : List ℕ) (from to left : ℕ) → 0 < left → left < 2 ^ 64 → length rows ≡ 64 → GivesProduct old rows from to left →
    GivesProduct old (set rows (trailing_zeros w64 left) (bit_or (get_or rows (trailing_zeros w64 left) 0) to)) from to (bit_and left (left - 1))
product_more old rows from to left some fits sized before = record {
  within = λ x bit. before.within x ((drop x).0 bit).1;
  pairs = λ x v. elim (cases_eq x low) [
    | inl same ↦ subst (λ n. HasPair new n v ↔ (HasPair old n v ⊎ ((HasBit from n × (HasBit (bit_and left (left - 1)) n → ⊥)) × HasBit to v))) (sym same) (here v)
    | inr other ↦ (let kept : get_or new x 0 ≡ get_or rows x 0 = get_or-set_other rows low x word 0 other in
        let was = before.pairs x v in (
          λ has. elim (was.0 (subst (λ w. HasBit w v) kept has)) [
            | inl had ↦ inl had
            | inr given ↦ inr ((given.0.0, λ bit. given.0.1 ((drop x).0 bit).1), given.1)
          ],
          λ given. subst (λ w. HasBit w v) (sym kept) (was.1 (elim given [
            | inl had ↦ inl had
            | inr g ↦ inr ((g.0.0, λ bit. g.0.1 ((drop x).1 (other, bit))), g.1)
          ])),
        ))
  ];
}
  where
    low : ℕ
    low = trailing_zeros w64 left

    word : ℕ
    word = bit_or (get_or rows low 0) to

    new : List ℕ
    new = set rows low word

    drop : (k : ℕ) → HasBit (bit_and left (left - 1)) k ↔ ((k ≢ low) × HasBit left k)
    drop k = HasBit-drop left k some fits

    first : (low < 64) × HasBit left low
    first = let is = HasBit-lowest left some fits in (is.0, is.1)

    here : (v : ℕ) → HasPair new low v ↔ (HasPair old low v ⊎ ((HasBit from low × (HasBit (bit_and left (left - 1)) low → ⊥)) × HasBit to v))
    here v =
        let read : get_or new low 0 ≡ word = get_or-set_same rows low word 0 (omega (arith, first.0, sized)) in
        let both = HasBit-or (get_or rows low 0) to v in
        let was = before.pairs low v in (
          λ has. elim (both.0 (subst (λ w. HasBit w v) read has)) [
            | inl had ↦ elim (was.0 had) [
              | inl there ↦ inl there
              | inr given ↦ absurd (given.0.1 first.1)
            ]
            | inr bit ↦ inr ((before.within low first.1, λ still. ((drop low).0 still).0 refl), bit)
          ],
          λ given. subst (λ w. HasBit w v) (sym read) (both.1 (elim given [
            | inl there ↦ inl (was.1 (inl there))
            | inr g ↦ inr g.1
          ])),
        )

pub product_all : (old new : List ℕ) (from to left : ℕ) → left ≡ 0 → GivesProduct old new from to left → (x v : ℕ) → HasPair new x v ↔ (HasPair old x v ⊎ (HasBit from x × HasBit to v))
product_all old new from to left none gives x v = (
  λ has. elim ((gives.pairs x v).0 has) [
    | inl had ↦ inl had
    | inr given ↦ inr (given.0.0, given.1)
  ],
  λ given. (gives.pairs x v).1 (elim given [
    | inl had ↦ inl had
    | inr g ↦ inr ((g.0, λ bit. HasBit-zero x (subst (λ w. HasBit w x) none bit)), g.1)
  ]),
)

-- tables that are each other turned around stay so
pub transposed_product : (rows columns more turned : List ℕ) (from to : ℕ) → ((x v : ℕ) → HasPair more x v ↔ (HasPair rows x v ⊎ (HasBit from x × HasBit to v))) →
    ((x v : ℕ) → HasPair turned x v ↔ (HasPair columns x v ⊎ (HasBit to x × HasBit from v))) → AreTransposed rows columns → AreTransposed more turned
transposed_product rows columns more turned from to pairs turned_pairs before u v = (
  λ has. (turned_pairs v u).1 (elim ((pairs u v).0 has) [
    | inl had ↦ inl ((before u v).0 had)
    | inr given ↦ inr (given.1, given.0)
  ]),
  λ has. (pairs u v).1 (elim ((turned_pairs v u).0 has) [
    | inl had ↦ inl ((before u v).1 had)
    | inr given ↦ inr (given.1, given.0)
  ]),
)

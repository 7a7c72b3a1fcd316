-- Lemmas on lists of pairs, and on the table that has them.
use Rattle.std.proofs.Common.{◌≡◌, ◌∙◌, ◌⊎◌, ◌↔◌, inl, inr, ℕ, ◌<◌, List, [], ◌∷◌, ◌++◌, refl, sym, subst}
use Rattle.std.proofs.lemmas.List.{append-nil}
use Rattle.std.proofs.lemmas.Bool.{cases_eq}
use Rattle.order_paths.proofs.Decisions.{Decision, Decision-both, Decision-either}
use Rattle.refutation_check.specs.declared.pairs.Pair.{Pair}
use Rattle.cert_check.specs.declared.pair_tables.PairTable.{PairTable}
use Rattle.cert_check.specs.PairTables.{HasPair, IsSquare}
use Rattle.refutation_check.specs.Refutations.{WithPair}
use Rattle.refutation_check.specs.Internal.Pairs.{AreDistinct, InForce, IsTableOf, IsWith}

-- a pair is an earlier one, or the last one
pub earlier_or_last : (pairs : List Pair) (p : Pair) (u v : ℕ) → InForce (pairs ++ p ∷ []) u v → InForce pairs u v ⊎ ((p.from ≡ u) × (p.to ≡ v))
earlier_or_last [] p u v (inl here) = inr here
earlier_or_last [] p u v (inr none) = absurd none
earlier_or_last (a ∷ pairs) p u v (inl here) = inl (inl here)
earlier_or_last (a ∷ pairs) p u v (inr later) = elim (earlier_or_last pairs p u v later) [ inl earlier ↦ inl (inr earlier) | inr last ↦ inr last ]

pub earlier_is_one : (pairs : List Pair) (p : Pair) (u v : ℕ) → InForce pairs u v → InForce (pairs ++ p ∷ []) u v
earlier_is_one [] p u v none = absurd none
earlier_is_one (a ∷ pairs) p u v (inl here) = inl here
earlier_is_one (a ∷ pairs) p u v (inr later) = inr (earlier_is_one pairs p u v later)

pub last_is_one : (pairs : List Pair) (p : Pair) (u v : ℕ) → (p.from ≡ u) × (p.to ≡ v) → InForce (pairs ++ p ∷ []) u v
last_is_one [] p u v here = inl here
last_is_one (a ∷ pairs) p u v here = inr (last_is_one pairs p u v here)

-- the pairs after one more
pub with_has : (pairs : List Pair) (u v : ℕ) (next : List Pair) → IsWith pairs u v next → (x y : ℕ) → WithPair (InForce pairs) u v x y → InForce next x y
with_has pairs u v next (inl there) x y (inl before) = subst (λ ps. InForce ps x y) (sym there.1) before
with_has pairs u v next (inl there) x y (inr here) = subst (λ ps. InForce ps x y) (sym there.1) (subst (λ k. InForce pairs k y) here.0 (subst (λ k. InForce pairs u k) here.1 there.0))
with_has pairs u v next (inr new) x y (inl before) = subst (λ ps. InForce ps x y) (sym new.1) (earlier_is_one pairs (record { from = u; to = v }) x y before)
with_has pairs u v next (inr new) x y (inr here) = subst (λ ps. InForce ps x y) (sym new.1) (last_is_one pairs (record { from = u; to = v }) x y here)

pub with_only : (pairs : List Pair) (u v : ℕ) (next : List Pair) → IsWith pairs u v next → (x y : ℕ) → InForce next x y → WithPair (InForce pairs) u v x y
with_only pairs u v next (inl there) x y one = inl (subst (λ ps. InForce ps x y) there.1 one)
with_only pairs u v next (inr new) x y one = earlier_or_last pairs (record { from = u; to = v }) x y (subst (λ ps. InForce ps x y) new.1 one)

pub with_extends : (pairs : List Pair) (u v : ℕ) (next : List Pair) → IsWith pairs u v next → (more : List Pair) × (next ≡ pairs ++ more)
with_extends pairs u v next (inl there) = ([], there.1 ∙ sym (append-nil pairs))
with_extends pairs u v next (inr new) = (record { from = u; to = v } ∷ [], new.1)

pub in_force_decided : (pairs : List Pair) (u v : ℕ) → Decision (InForce pairs u v)
in_force_decided [] u v = inr (λ none. none)
in_force_decided (p ∷ pairs) u v = Decision-either (Decision-both (cases_eq p.from u) (cases_eq p.to v)) (in_force_decided pairs u v)

-- ---- distinct pairs

pub distinct_more : (pairs : List Pair) (p : Pair) → AreDistinct pairs → (InForce pairs p.from p.to → ⊥) → AreDistinct (pairs ++ p ∷ [])
distinct_more [] p distinct new = ((λ none. none), tt)
distinct_more (a ∷ pairs) p distinct new = (
  λ one. elim (earlier_or_last pairs p a.from a.to one) [
    | inl earlier ↦ distinct.0 earlier
    | inr last ↦ new (inl (sym last.0, sym last.1))
  ],
  distinct_more pairs p distinct.1 (λ later. new (inr later)),
)

pub distinct_less : (pairs : List Pair) (p : Pair) → AreDistinct (pairs ++ p ∷ []) → AreDistinct pairs × (InForce pairs p.from p.to → ⊥)
distinct_less [] p distinct = (tt, λ none. none)
distinct_less (a ∷ pairs) p distinct =
    let rest = distinct_less pairs p distinct.1 in (
      ((λ one. distinct.0 (earlier_is_one pairs p a.from a.to one)), rest.0),
      λ one. elim one [
        | inl here ↦ distinct.0 (last_is_one pairs p a.from a.to (sym here.0, sym here.1))
        | inr later ↦ rest.1 later
      ],
    )

-- ---- the table

pub table_of_none : (table : PairTable) → IsSquare table → ((u v : ℕ) → HasPair table u v → ⊥) → IsTableOf table []
table_of_none table square empty = record { square = square; distinct = tt; set = λ u v. (λ has. empty u v has, λ none. absurd none) }

pub table_with : (old new : PairTable) (pairs : List Pair) (u v : ℕ) → IsTableOf old pairs → (InForce pairs u v → ⊥) → IsSquare new →
    ((x y : ℕ) → HasPair new x y ↔ (HasPair old x y ⊎ ((u ≡ x) × (v ≡ y)))) → IsTableOf new (pairs ++ record { from = u; to = v } ∷ [])
table_with old new pairs u v is_of other square added = record {
  square = square;
  distinct = distinct_more pairs (record { from = u; to = v }) is_of.distinct other;
  set = λ x y. (
    λ has. elim ((added x y).0 has) [
      | inl before ↦ earlier_is_one pairs (record { from = u; to = v }) x y ((is_of.set x y).0 before)
      | inr here ↦ last_is_one pairs (record { from = u; to = v }) x y here
    ],
    λ one. (added x y).1 (elim (earlier_or_last pairs (record { from = u; to = v }) x y one) [
      | inl earlier ↦ inl ((is_of.set x y).1 earlier)
      | inr here ↦ inr here
    ]),
  );
}

pub table_without : (old new : PairTable) (pairs : List Pair) (p : Pair) → IsTableOf old (pairs ++ p ∷ []) → IsSquare new →
    ((x y : ℕ) → HasPair new x y ↔ (HasPair old x y × ((p.from ≡ x) × (p.to ≡ y) → ⊥))) → IsTableOf new pairs
table_without old new pairs p is_of square removed =
    let less = distinct_less pairs p is_of.distinct in
    record {
      square = square;
      distinct = less.0;
      set = λ x y. (
        λ has.
            let left = (removed x y).0 has in
            elim (earlier_or_last pairs p x y ((is_of.set x y).0 left.0)) [ inl earlier ↦ earlier | inr here ↦ absurd (left.1 here) ],
        λ one. (removed x y).1 (
          (is_of.set x y).1 (earlier_is_one pairs p x y one),
          λ here. less.1 (subst (λ k. InForce pairs k p.to) (sym here.0) (subst (λ k. InForce pairs x k) (sym here.1) one)),
        ),
      );
    }

-- a pair of the list has room in the table
pub pair_within : (table : PairTable) (pairs : List Pair) (u v : ℕ) → IsTableOf table pairs → InForce pairs u v → (u < table.nodes) × (v < table.nodes)
pair_within table pairs u v is_of one = let has = (is_of.set u v).1 one in (has.0, has.1)

pub last_within : (table : PairTable) (pairs : List Pair) (p : Pair) → IsTableOf table (pairs ++ p ∷ []) → (p.from < table.nodes) × (p.to < table.nodes)
last_within table pairs p is_of = pair_within table (pairs ++ p ∷ []) p.from p.to is_of (last_is_one pairs p p.from p.to (refl, refl))

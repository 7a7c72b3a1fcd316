-- Lemmas on numbers for pairs.
use Rattle.std.proofs.Common.{◌≡◌, ◌∙◌, ◌⊎◌, inl, inr, ⊎_elim, sym, ap, subst, ℕ, ◌+◌, ◌<◌, false, List, [], ◌∷◌, ◌++◌, length, Some, None, slice_index, slice_index_or, arith}
use Rattle.std.specs.HashMap.{HashMap, get, Updates, IsEmpty}
use Rattle.std.proofs.lemmas.Bool.{cases_eq}
use Rattle.std.proofs.lemmas.Bool.Decides.{nat_tests}
use Rattle.std.proofs.lemmas.List.{get_or_append_left, get_or_default, length-append}
use Rattle.std.proofs.lemmas.Option.{none-some}
use Rattle.std.proofs.Math.Seq.{get_or-append_seam}
use Rattle.value_check.specs.Internal.Numbering.{pair_at, same_pair, IsNumbering, FindsNumbers}

-- whether two pairs are equal
cases_pair : (p w : ℕ × ℕ) → (p ≡ w) ⊎ (p ≡ w → ⊥)
cases_pair p w =
    ⊎_elim
    (λ (first : p.0 ≡ w.0). ⊎_elim (λ (second : p.1 ≡ w.1). inl (λ i. (first i, second i))) (λ other. inr (λ same. other (ap (λ (q : ℕ × ℕ). q.1) same))) (cases_eq p.1 w.1))
    (λ other. inr (λ same. other (ap (λ (q : ℕ × ℕ). q.0) same)))
    (cases_eq p.0 w.0)

module _ {S : Type 0} (pairs : List (ℕ × ℕ)) where
  pub numbers-none : (found : HashMap (ℕ × ℕ) ℕ S) → IsEmpty found → FindsNumbers pairs found [] 0
  numbers-none found empty = record {
    finds = λ j below. absurd (omega arith);
    below = λ w n is. let none = rw empty at is in absurd (none-some n none);
    once = λ w v n first second. let none = rw empty at first in absurd (none-some n none);
    few = omega arith;
  }

  -- one more number, where the map has those of the pairs so far and of the next one
  finds_more : (found : HashMap (ℕ × ℕ) ℕ S) (numbers : List ℕ) (n : ℕ) → ((j : ℕ) → j < length numbers → get same_pair found (pair_at pairs j) ≡ Some (slice_index numbers j)) →
      get same_pair found (pair_at pairs (length numbers)) ≡ Some n → (j : ℕ) → j < length (numbers ++ n ∷ []) → get same_pair found (pair_at pairs j) ≡ Some (slice_index (numbers ++ n ∷ []) j)
  finds_more found numbers n finds here j below =
      ⊎_elim
      (λ (same : j ≡ length numbers).
      subst (λ i. get same_pair found (pair_at pairs i) ≡ Some (slice_index (numbers ++ n ∷ []) i)) (sym same) (here ∙ ap Some (sym (get_or-append_seam numbers n [] 0))))
      (λ (other : j ≡ length numbers → ⊥).
      let before : j < length numbers = elim (cases_eq j (length numbers)) [ inl is ↦ absurd (other is) | inr apart ↦ omega (arith, apart, below, length-append numbers (n ∷ [])) ] in
      finds j before ∙ ap Some (sym (get_or_append_left numbers (n ∷ []) 0 j before)))
      (cases_eq j (length numbers))

  pub numbers-known : (found : HashMap (ℕ × ℕ) ℕ S) (numbers : List ℕ) (count n : ℕ) → FindsNumbers pairs found numbers count →
      get same_pair found (pair_at pairs (length numbers)) ≡ Some n → FindsNumbers pairs found (numbers ++ n ∷ []) count
  numbers-known found numbers count n finds here = record {
    finds = finds_more found numbers n finds.finds here;
    below = finds.below;
    once = finds.once;
    few = omega (arith, finds.few, length-append numbers (n ∷ []));
  }

  -- what two look-ups of the new map find
  looked_up : (old new : HashMap (ℕ × ℕ) ℕ S) (p w : ℕ × ℕ) (count : ℕ) → Updates same_pair old new p (Some count) → (p ≡ w → get same_pair new w ≡ Some count) × ((p ≡ w → ⊥) → get same_pair new w ≡ get same_pair old w)
  looked_up old new p w count updates = (
    λ same. subst (λ q. get same_pair new q ≡ Some count) same updates.1,
    λ other. updates.2 w (tested other),
  )
    where
      tested : (p ≡ w → ⊥) → same_pair p w ≡ false
      tested other =
          ⊎_elim
          (λ (first : p.0 ≡ w.0).
          ⊎_elim
          (λ (second : p.1 ≡ w.1). absurd (other (λ i. (first i, second i))))
          (λ (second : p.1 ≡ w.1 → ⊥). let test : same_pair p w ≡ false = grind (arith, nat_tests) in test)
          (cases_eq p.1 w.1))
          (λ (first : p.0 ≡ w.0 → ⊥). let test : same_pair p w ≡ false = grind (arith, nat_tests) in test)
          (cases_eq p.0 w.0)

  pub numbers-new : (old new : HashMap (ℕ × ℕ) ℕ S) (numbers : List ℕ) (count : ℕ) → FindsNumbers pairs old numbers count →
      get same_pair old (pair_at pairs (length numbers)) ≡ None → Updates same_pair old new (pair_at pairs (length numbers)) (Some count) → FindsNumbers pairs new (numbers ++ count ∷ []) (count + 1)
  numbers-new old new numbers count finds none updates = record {
    finds = finds_more new numbers count
        (λ j before. by_pair j before (cases_pair p (pair_at pairs j)))
        updates.1;
    below = λ w n is. below_of w n is (cases_pair p w);
    once = λ w v n first second. once_of w v n first second (cases_pair p w) (cases_pair p v);
    few = omega (arith, finds.few, length-append numbers (count ∷ []));
  }
    where
      p : ℕ × ℕ
      p = pair_at pairs (length numbers)

      at : (w : ℕ × ℕ) → (p ≡ w → get same_pair new w ≡ Some count) × ((p ≡ w → ⊥) → get same_pair new w ≡ get same_pair old w)
      at w = looked_up old new p w count updates

      by_pair : (j : ℕ) → j < length numbers → (p ≡ pair_at pairs j) ⊎ (p ≡ pair_at pairs j → ⊥) → get same_pair new (pair_at pairs j) ≡ Some (slice_index numbers j)
      by_pair j before (inl same) =
          let found = finds.finds j before in
          let missing : get same_pair old (pair_at pairs j) ≡ None = subst (λ q. get same_pair old q ≡ None) same none in
          let clash : Some (slice_index numbers j) ≡ None = sym found ∙ missing in
          absurd (cc)
      by_pair j before (inr other) = (at (pair_at pairs j)).1 other ∙ finds.finds j before

      below_of : (w : ℕ × ℕ) (n : ℕ) → get same_pair new w ≡ Some n → (p ≡ w) ⊎ (p ≡ w → ⊥) → n < count + 1
      below_of w n is (inl same) = let one : Some count ≡ Some n = sym ((at w).0 same) ∙ is in let equal : count ≡ n = cc in omega arith
      below_of w n is (inr other) = let less = finds.below w n (sym ((at w).1 other) ∙ is) in omega arith

      once_of : (w v : ℕ × ℕ) (n : ℕ) → get same_pair new w ≡ Some n → get same_pair new v ≡ Some n → (p ≡ w) ⊎ (p ≡ w → ⊥) → (p ≡ v) ⊎ (p ≡ v → ⊥) → w ≡ v
      once_of w v n first second (inl same_w) (inl same_v) = sym same_w ∙ same_v
      once_of w v n first second (inl same_w) (inr other_v) =
          let one : Some count ≡ Some n = sym ((at w).0 same_w) ∙ first in
          let equal : count ≡ n = cc in
          let less = finds.below v n (sym ((at v).1 other_v) ∙ second) in
          absurd (omega arith)
      once_of w v n first second (inr other_w) (inl same_v) =
          let one : Some count ≡ Some n = sym ((at v).0 same_v) ∙ second in
          let equal : count ≡ n = cc in
          let less = finds.below w n (sym ((at w).1 other_w) ∙ first) in
          absurd (omega arith)
      once_of w v n first second (inr other_w) (inr other_v) = finds.once w v n (sym ((at w).1 other_w) ∙ first) (sym ((at v).1 other_v) ∙ second)

  -- what the map has of all pairs is a numbering
  pub numbering_of : (found : HashMap (ℕ × ℕ) ℕ S) (numbers : List ℕ) (count : ℕ) → FindsNumbers pairs found numbers count → length numbers ≡ length pairs → IsNumbering pairs numbers count
  numbering_of found numbers count finds whole = record {
    whole = whole;
    below = λ i d within. finds.below (pair_at pairs i) (slice_index_or numbers i d) (finds.finds i within ∙ ap Some (get_or_default numbers i 0 d within));
    few = finds.few;
    same = λ i j below_i below_j equal.
        let first = finds.finds i (omega arith) in
        let second = finds.finds j (omega arith) in
        let both : Some (slice_index numbers i) ≡ Some (slice_index numbers j) = sym first ∙ ap (get same_pair found) equal ∙ second in
        cc;
    apart = λ i j below_i below_j equal.
        finds.once (pair_at pairs i) (pair_at pairs j) (slice_index numbers j)
        (finds.finds i (omega arith) ∙ ap Some equal) (finds.finds j (omega arith));
  }

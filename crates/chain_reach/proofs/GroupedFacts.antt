-- Numbers that are put in the lists of their groups, one after the other.
use Rattle.std.proofs.Common.{◌≡◌, inl, inr, ℕ, ◌+◌, ◌^◌, ◌<◌, List, [], ◌∷◌, ◌++◌, length, get_or, set, map, sym, subst, ◌∙◌, ap, arith}
use Rattle.std.specs.Prelude.{All}
use Rattle.std.proofs.lemmas.Bool.{cases_eq}
use Rattle.std.proofs.lemmas.List.{get_or-set_same, get_or-set_other, length-set, length-map, get_or-map, map-set}
use Rattle.bitsets.specs.Rows.{IsListOf}
use Rattle.chain_reach.specs.Internal.Lists.{AreGroups}
use Rattle.chain_reach.proofs.ListFacts.{IsGroup-from, listed_push, listed_pass}

-- The lists have the numbers below n, by their groups.
pub record Grouped {X : Type 0} (keys : List ℕ) (lists : List X) (items : X → List ℕ) (count n : ℕ) : Type 0 where
  pub sized : length lists ≡ count
  pub each : (d : ℕ) → d < count → IsListOf (get_or (map items lists) d []) (λ v. (v < n) × (get_or keys v 0 ≡ d))

-- a list of lists that are empty
all_empty : {X : Type 0} (lists : List X) (items : X → List ℕ) (d : ℕ) → All (λ list. items list ≡ []) lists → d < length lists → get_or (map items lists) d [] ≡ []
all_empty [] items d empty low = absurd (omega (arith, low))
all_empty (x ∷ xs) items d empty low = get_or-map items (x ∷ xs) d x [] low ∙ empty d x low

pub Grouped-start : {X : Type 0} (keys : List ℕ) (lists : List X) (items : X → List ℕ) (count : ℕ) → length lists ≡ count → All (λ list. items list ≡ []) lists → Grouped keys lists items count 0
Grouped-start keys lists items count sized empty = record {
  sized = sized;
  each = λ d low.
      let at : get_or (map items lists) d [] ≡ [] = all_empty lists items d empty (omega (arith, low, sized)) in
      subst (λ list. IsListOf list (λ v. (v < 0) × (get_or keys v 0 ≡ d))) (sym at) record {
        all = λ v of. absurd (let less = of.0 in omega (arith, less));
        only = λ v has. absurd (let less = has.1 in omega (arith, less));
        ascending = tt;
      };
}

-- the list of the group of n gains n
pub Grouped-step : {X : Type 0} (keys : List ℕ) (lists : List X) (items : X → List ℕ) (count n : ℕ) (now new : X) → Grouped keys lists items count n → get_or keys n 0 < count →
    items now ≡ get_or (map items lists) (get_or keys n 0) [] → items new ≡ items now ++ n ∷ [] → Grouped keys (set lists (get_or keys n 0) new) items count (n + 1)
Grouped-step keys lists items count n now new is low was pushes = record {
  sized = length-set lists (get_or keys n 0) new ∙ is.sized;
  each = λ d within.
      let written : map items (set lists (get_or keys n 0) new) ≡ set (map items lists) (get_or keys n 0) (items new) = map-set items lists (get_or keys n 0) new in
      elim (cases_eq d (get_or keys n 0)) [
        | inl e ↦ (let size = length-map lists items in
            let sized = is.sized in
            let at : get_or (map items (set lists (get_or keys n 0) new)) d [] ≡ get_or (map items lists) d [] ++ n ∷ [] =
            ap (λ rows. get_or rows d []) written ∙ ap (λ k. get_or (set (map items lists) (get_or keys n 0) (items new)) k []) e ∙ get_or-set_same (map items lists) (get_or keys n 0) (items new) [] (omega (arith, size, sized, low))
            ∙ pushes ∙ ap (λ list. list ++ n ∷ []) (was ∙ ap (λ k. get_or (map items lists) k []) (sym e)) in
            subst (λ list. IsListOf list (λ v. (v < n + 1) × (get_or keys v 0 ≡ d))) (sym at) (listed_push (get_or (map items lists) d []) (λ v. get_or keys v 0 ≡ d) n (is.each d within) (sym e)))
        | inr ne ↦ (let at : get_or (map items (set lists (get_or keys n 0) new)) d [] ≡ get_or (map items lists) d [] =
            ap (λ rows. get_or rows d []) written ∙ get_or-set_other (map items lists) (get_or keys n 0) d (items new) [] ne in
            subst (λ list. IsListOf list (λ v. (v < n + 1) × (get_or keys v 0 ≡ d))) (sym at)
            (listed_pass (get_or (map items lists) d []) (λ v. get_or keys v 0 ≡ d) n (is.each d within) (λ e. ne (sym e))))
      ];
}

pub Grouped-end : {X : Type 0} (keys : List ℕ) (lists : List X) (items : X → List ℕ) (count n : ℕ) → Grouped keys lists items count n → n ≡ length keys → length keys < 2 ^ 32 →
    ((k : ℕ) → k < length keys → get_or keys k 0 < count) → AreGroups keys (map items lists)
Grouped-end keys lists items count n is end small within = record {
  small = small;
  within = λ k low. (let less = within k low in let sized = is.sized in omega (arith, less, sized, length-map lists items));
  each = λ d low. (let sized = is.sized in let size = length-map lists items in
      IsGroup-from keys (get_or (map items lists) d []) d
      (subst (λ m. IsListOf (get_or (map items lists) d []) (λ v. (v < m) × (get_or keys v 0 ≡ d))) end (is.each d (omega (arith, low, size, sized)))));
}

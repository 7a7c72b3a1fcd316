-- Lists of the numbers of each group.
use Rattle.std.proofs.Common.{◌≡◌, ◌⊎◌, inl, inr, ℕ, zero, suc, ◌+◌, ◌<◌, List, [], ◌∷◌, ◌++◌, length, get_or, sym, subst, ◌∙◌, arith}
use Rattle.std.specs.Prelude.{Contains}
use Rattle.std.proofs.lemmas.Bool.{cases_eq}
use Rattle.std.proofs.lemmas.List.{get_or_default}
use Rattle.std.proofs.lemmas.List.Elements.{Contains-get_or, Contains-append_left, Contains-push, Contains-push_cases}
use Rattle.bitsets.specs.Rows.{IsAscending, IsListOf}
use Rattle.bitsets.proofs.ListFacts.{ascending_push, list_as}
use Rattle.chain_reach.specs.Internal.Lists.{IsGroup}

pub ascending_at : (xs : List ℕ) → IsAscending xs → (i j : ℕ) → i < j → j < length xs → get_or xs i 0 < get_or xs j 0
ascending_at [] up i j less low = absurd (omega (arith, low))
ascending_at (x ∷ xs) up zero zero less low = absurd (omega (arith, less))
ascending_at (x ∷ xs) up zero (suc j) less low = up.0 (get_or xs j 0) (Contains-get_or xs j 0 (omega (arith, low)))
ascending_at (x ∷ xs) up (suc i) zero less low = absurd (omega (arith, less))
ascending_at (x ∷ xs) up (suc i) (suc j) less low = ascending_at xs up.1 i j (omega (arith, less)) (omega (arith, low))

pub ascending_from : (xs : List ℕ) → ((i j : ℕ) → i < j → j < length xs → get_or xs i 0 < get_or xs j 0) → IsAscending xs
ascending_from [] at = tt
ascending_from (x ∷ xs) at = (
  λ y has. (let low = has.1 in subst (λ n. x < n) (get_or_default xs has.0 0 y low ∙ has.2) (at 0 (suc has.0) (omega arith) (omega (arith, low)))),
  ascending_from xs (λ i j less low. at (suc i) (suc j) (omega (arith, less)) (omega (arith, low))),
)

tail_has : (x : ℕ) (xs : List ℕ) (n k : ℕ) → (x ≡ n → ⊥) → k < length (x ∷ xs) → get_or (x ∷ xs) k n ≡ n → Contains xs n
tail_has x xs n zero ne low is = absurd (ne is)
tail_has x xs n (suc k) ne low is = (k, omega (arith, low), is)

pub contains_or : (xs : List ℕ) (n : ℕ) → Contains xs n ⊎ (Contains xs n → ⊥)
contains_or [] n = inr (λ has. (let low = has.1 in omega (arith, low)))
contains_or (x ∷ xs) n = elim (cases_eq x n) [
  | inl e ↦ inl (0, omega arith, e)
  | inr ne ↦ elim (contains_or xs n) [
    | inl has ↦ inl (suc has.0, (let low = has.1 in omega (arith, low)), has.2)
    | inr none ↦ inr (λ has. none (tail_has x xs n has.0 ne has.1 has.2))
  ]
]

-- a place of what a list contains
pub contains_place : (xs : List ℕ) (n : ℕ) → Contains xs n → (k : ℕ) × (k < length xs) × (get_or xs k 0 ≡ n)
contains_place xs n has = (has.0, has.1, get_or_default xs has.0 0 n has.1 ∙ has.2)

pub IsGroup-list : (keys list : List ℕ) (d : ℕ) → IsGroup keys list d → IsListOf list (λ n. (n < length keys) × (get_or keys n 0 ≡ d))
IsGroup-list keys list d is = record {
  all = λ v of. elim (contains_or list v) [ inl has ↦ has | inr none ↦ absurd (is.all v of.0 of.1 none) ];
  only = λ v has. (let place = contains_place list v has in
      (subst (λ n. n < length keys) place.2 (is.within place.0 place.1), subst (λ n. get_or keys n 0 ≡ d) place.2 (is.keyed place.0 place.1)));
  ascending = ascending_from list is.ascending;
}

pub IsGroup-from : (keys list : List ℕ) (d : ℕ) → IsListOf list (λ n. (n < length keys) × (get_or keys n 0 ≡ d)) → IsGroup keys list d
IsGroup-from keys list d is = record {
  within = λ k low. (is.only (get_or list k 0) (Contains-get_or list k 0 low)).0;
  keyed = λ k low. (is.only (get_or list k 0) (Contains-get_or list k 0 low)).1;
  all = λ n low e none. none (is.all n (low, e));
  ascending = ascending_at list is.ascending;
}

-- a list of the numbers below n gains n
pub listed_push : (list : List ℕ) (Of : ℕ → Type 0) (n : ℕ) → IsListOf list (λ v. (v < n) × Of v) → Of n → IsListOf (list ++ n ∷ []) (λ v. (v < n + 1) × Of v)
listed_push list Of n is here = record {
  all = λ v of. (let low = of.0 in elim (cases_eq v n) [
    | inl e ↦ subst (λ k. Contains (list ++ n ∷ []) k) (sym e) (Contains-push list n)
    | inr ne ↦ Contains-append_left list (n ∷ []) v (is.all v (omega (arith, low, ne), of.1))
  ]);
  only = λ v has. elim (Contains-push_cases list n v has) [
    | inl before ↦ (let old = is.only v before in let low = old.0 in (omega (arith, low), old.1))
    | inr e ↦ (omega (arith, e), subst Of e here)
  ];
  ascending = ascending_push list n is.ascending (λ v has. (is.only v has).0);
}

-- or not, where n isn't one of them
pub listed_pass : (list : List ℕ) (Of : ℕ → Type 0) (n : ℕ) → IsListOf list (λ v. (v < n) × Of v) → (Of n → ⊥) → IsListOf list (λ v. (v < n + 1) × Of v)
listed_pass list Of n is not = list_as list (λ v. (v < n) × Of v) (λ v. (v < n + 1) × Of v) is
    (λ v of. (let less = of.0 in (omega (arith, less), of.1)))
    (λ v of. (let less = of.0 in elim (cases_eq v n) [
      | inl same ↦ absurd (not (subst Of same of.1))
      | inr other ↦ (omega (arith, less, other), of.1)
    ]))

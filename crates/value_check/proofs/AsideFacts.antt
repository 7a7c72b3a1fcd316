-- Lemmas on the sources of a load that are set aside.
use Rattle.std.proofs.Common.{◌≡◌, ◌↔◌, inl, inr, ap, subst, ℕ, List, [], ◌∷◌, ◌++◌}
use Rattle.std.specs.List.{Contains}
use Rattle.value_check.proofs.LeadingFacts.{contained_cases, last_contained, more_contained}

-- the numbers are the sources of the load among these pairs
abbrev pub AreSetAside : List (ℕ × ℕ) → ℕ → List ℕ → Type 0
AreSetAside aside load numbers = (r : ℕ) → Contains numbers r ↔ Contains aside (load, r)

second_of : (x y : ℕ × ℕ) → x ≡ y → x.1 ≡ y.1
second_of x y same = ap (λ pair. pair.1) same

first_of : (x y : ℕ × ℕ) → x ≡ y → x.0 ≡ y.0
first_of x y same = ap (λ pair. pair.0) same

module _ (aside : List (ℕ × ℕ)) (load : ℕ) (numbers : List ℕ) (pair : ℕ × ℕ) (are : AreSetAside aside load numbers) where
  -- one pair more of the load
  pub aside_with : pair.0 ≡ load → AreSetAside (aside ++ pair ∷ []) load (numbers ++ pair.1 ∷ [])
  aside_with same r =
      let here : ℕ × ℕ = (load, r) in
      let own : ℕ × ℕ = (pair.0, pair.1) in (
        λ among. elim (contained_cases numbers pair.1 r among) [
          | inl before ↦ more_contained aside pair here ((are r).0 before)
          | inr last ↦
              subst (λ n. (let it : ℕ × ℕ = (n, r) in Contains (aside ++ pair ∷ []) it)) same
              (subst (λ n. (let it : ℕ × ℕ = (pair.0, n) in Contains (aside ++ pair ∷ []) it)) last (last_contained aside pair))
        ],
        λ among. elim (contained_cases aside pair here among) [
          | inl before ↦ more_contained numbers pair.1 r ((are r).1 before)
          | inr last ↦ subst (Contains (numbers ++ pair.1 ∷ [])) (second_of pair here last) (last_contained numbers pair.1)
        ],
      )

  -- one of another load
  pub aside_without : (pair.0 ≡ load → ⊥) → AreSetAside (aside ++ pair ∷ []) load numbers
  aside_without other r =
      let here : ℕ × ℕ = (load, r) in (
        λ among. more_contained aside pair here ((are r).0 among),
        λ among. elim (contained_cases aside pair here among) [ inl before ↦ (are r).1 before | inr last ↦ absurd (other (first_of pair here last)) ],
      )

-- Lemmas on numbers that were noted.
use Rattle.std.proofs.Common.{◌≡◌, ◌≢◌, ◌⊎◌, ◌↔◌, inl, inr, sym, ◌∙◌, subst, refl, ℕ, ◌<◌, List, length}
use Rattle.std.proofs.lemmas.Bool.{cases_eq}
use Rattle.value_check.specs.declared.noted.Noted.{Noted}
use Rattle.value_check.specs.declared.noted.Noted.TheVariants.{Nothing, One, Several}
use Rattle.value_check.specs.Internal.Noted.{HasOther, IsEmptyTable, IsNotedAt, IsNotedOf, Notes, noted_at}

-- another number than one was noted exactly where there is one with what all have
pub noted_other : (noted : Noted) (Of : ℕ → Type 0) (n : ℕ) → IsNotedOf noted Of → HasOther noted n ↔ ((m : ℕ) × Of m × (m ≢ n))
noted_other Nothing Of n none = (λ other. absurd other, λ (m, of, other). none m of)
noted_other (One k) Of n one = (λ other. (k, one.0, other), λ (m, of, other). λ same. other (one.1 m of ∙ same))
noted_other Several Of n (j, k, of_j, of_k, apart) = (
  λ any. elim (cases_eq j n) [ inl same ↦ (k, of_k, λ is. apart (same ∙ sym is)) | inr other ↦ (j, of_j, other) ],
  λ some. tt,
)

-- what was noted of a set is noted of an equal one
pub noted_same : (noted : Noted) (Of Also : ℕ → Type 0) → ((n : ℕ) → Of n ↔ Also n) → IsNotedOf noted Of → IsNotedOf noted Also
noted_same Nothing Of Also same none = λ n also. none n ((same n).1 also)
noted_same (One k) Of Also same one = ((same k).0 one.0, λ n also. one.1 n ((same n).1 also))
noted_same Several Of Also same (j, k, of_j, of_k, apart) = (j, k, (same j).0 of_j, (same k).0 of_k, apart)

-- and of one with a number more once that is noted
pub noted_more : (noted new : Noted) (Of : ℕ → Type 0) (n : ℕ) → Notes noted n new → IsNotedOf noted Of → IsNotedOf new (λ m. Of m ⊎ (m ≡ n))
noted_more Nothing new Of n is none =
    subst (λ (x : Noted). IsNotedOf x (λ m. Of m ⊎ (m ≡ n))) (sym is) (inr refl, λ m has. elim has [ inl of ↦ absurd (none m of) | inr same ↦ same ])
noted_more (One k) new Of n (inl (same, is)) one =
    subst (λ (x : Noted). IsNotedOf x (λ m. Of m ⊎ (m ≡ n))) (sym is) (inl one.0, λ m has. elim has [ inl of ↦ one.1 m of | inr here ↦ here ∙ sym same ])
noted_more (One k) new Of n (inr (apart, is)) one =
    subst (λ (x : Noted). IsNotedOf x (λ m. Of m ⊎ (m ≡ n))) (sym is) (k, n, inl one.0, inr refl, apart)
noted_more Several new Of n is (j, k, of_j, of_k, apart) =
    subst (λ (x : Noted). IsNotedOf x (λ m. Of m ⊎ (m ≡ n))) (sym is) (j, k, inl of_j, inl of_k, apart)

-- at a place of a table where a number is noted, and at the others
pub noted_there : (old new : List Noted) (place number : ℕ) (Of Also : ℕ → ℕ → Type 0) → IsNotedAt old new place number → place < length old →
    ((i : ℕ) → i < length old → IsNotedOf (noted_at old i) (Of i)) → ((i m : ℕ) → (Of i m ⊎ ((i ≡ place) × (m ≡ number))) ↔ Also i m) →
    (i : ℕ) → i < length old → IsNotedOf (noted_at new i) (Also i)
noted_there old new place number Of Also at within of same i below =
    elim (cases_eq i place) [
      | inl here ↦
          let noted : IsNotedOf (noted_at new place) (λ m. Of place m ⊎ (m ≡ number)) =
          noted_more (noted_at old place) (noted_at new place) (Of place) number (at.noted within) (of place within) in
          subst (λ n. IsNotedOf (noted_at new n) (Also n)) (sym here)
          (noted_same (noted_at new place) (λ m. Of place m ⊎ (m ≡ number)) (Also place) (λ m. (
            λ has. (same place m).0 (elim has [ inl is ↦ inl is | inr is ↦ inr (refl, is) ]),
            λ also. elim ((same place m).1 also) [ inl is ↦ inl is | inr is ↦ inr is.1 ],
          )) noted)
      | inr other ↦
          subst (λ (x : Noted). IsNotedOf x (Also i)) (sym (at.others i other))
          (noted_same (noted_at old i) (Of i) (Also i) (λ m. (
            λ is. (same i m).0 (inl is),
            λ also. elim ((same i m).1 also) [ inl is ↦ is | inr is ↦ absurd (other is.0) ],
          )) (of i below))
    ]

-- at a place of a table where nothing is noted
pub noted_empty : (count : ℕ) (table : List Noted) (Of : ℕ → ℕ → Type 0) → IsEmptyTable count table → ((i m : ℕ) → Of i m → ⊥) → (i : ℕ) → IsNotedOf (noted_at table i) (Of i)
noted_empty count table Of empty none i = subst (λ (x : Noted). IsNotedOf x (Of i)) (sym (empty.empty i)) (none i)

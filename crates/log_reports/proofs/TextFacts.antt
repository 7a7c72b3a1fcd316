-- Lemmas on the texts of elements, each after a line with its number.
use Rattle.std.proofs.Common.{◌≡◌, ◌∙◌, ℕ, zero, suc, ◌+◌, ◌<◌, List, [], ◌∷◌, ◌++◌, length, take, get_or, codes, ap, arith, sym, append_assoc}
use Rattle.std.specs.Fmt.{decimal}
use Rattle.std.proofs.lemmas.List.{append-nil}
use Rattle.log_reports.specs.LogTexts.{numbered_from}

module _ {X : Type 0} (text : X → List ℕ) (word : List ℕ) where
  -- an element after its number
  one : ℕ → X → List ℕ
  one n x = word ++ decimal n ++ codes "\n" ++ text x

  -- one more
  pub numbered_next : (n : ℕ) (xs : List X) (i : ℕ) (d : X) → i < length xs → numbered_from text word n (take (i + 1) xs) ≡ numbered_from text word n (take i xs) ++ (word ++ decimal (n + i) ++ codes "\n" ++ text (get_or xs i d))
  unfolding one
  numbered_next n [] i d within = absurd (omega (arith, within))
  numbered_next n (x ∷ xs) zero d within =
      let at : zero + 1 ≡ suc zero = omega arith in
      let same : n + 0 ≡ n = omega arith in
      ap (λ k. numbered_from text word n (take k (x ∷ xs))) at ∙ append-nil (one n x) ∙ ap (λ k. one k x) (sym same)
  numbered_next n (x ∷ xs) (suc i) d within =
      let at : suc i + 1 ≡ suc (i + 1) = omega arith in
      let same : n + 1 + i ≡ n + suc i = omega arith in
      ap (λ k. numbered_from text word n (take k (x ∷ xs))) at ∙ ap (λ ys. one n x ++ ys) (numbered_next (n + 1) xs i d (omega (arith, within)))
      ∙ sym (append_assoc (one n x) (numbered_from text word (n + 1) (take i xs)) (one (n + 1 + i) (get_or xs i d)))
      ∙ ap (λ k. (one n x ++ numbered_from text word (n + 1) (take i xs)) ++ one k (get_or xs i d)) same

  -- the same, written after what was there before
  pub numbered_more : (xs : List X) (i : ℕ) (x : X) (first before middle after : List ℕ) → i < length xs → x ≡ get_or xs i x → before ≡ first ++ numbered_from text word 1 (take i xs) →
      middle ≡ before ++ (word ++ decimal (i + 1) ++ codes "\n") → after ≡ middle ++ text x → after ≡ first ++ numbered_from text word 1 (take (i + 1) xs)
  numbered_more xs i x first before middle after within at was head body =
      let number : 1 + i ≡ i + 1 = omega arith in
      body ∙ ap (λ ys. ys ++ text x) head ∙ append_assoc before (word ++ decimal (i + 1) ++ codes "\n") (text x)
      ∙ ap (λ ys. ys ++ (word ++ decimal (i + 1) ++ codes "\n" ++ text x)) was ∙ append_assoc first (numbered_from text word 1 (take i xs)) (word ++ decimal (i + 1) ++ codes "\n" ++ text x)
      ∙ ap (λ ys. first ++ ys) (ap (λ n. numbered_from text word 1 (take i xs) ++ (word ++ decimal n ++ codes "\n" ++ text x)) (sym number)
      ∙ ap (λ y. numbered_from text word 1 (take i xs) ++ (word ++ decimal (1 + i) ++ codes "\n" ++ text y)) at ∙ sym (numbered_next 1 xs i x within))

-- Lemmas on the tags of lines.
use Rattle.std.proofs.Common.{◌≡◌, ◌<◌, ◌≤◌, ◌==◌, ◌&&◌, ◌++◌, refl, sym, ap, ℕ, zero, suc, Bool, true, false, cond, List, [], ◌∷◌, length, get_or, take, drop, arith}
use Rattle.run_lines.specs.Tags.{before_tag}

-- a space and a `#` stand at the index
abbrev pub is_tag : List ℕ → ℕ → Bool
is_tag line i = (get_or line i 0 == 32) && (get_or line (suc i) 0 == 35)

-- no tag begins at the index
pub tag-next : (line : List ℕ) (i : ℕ) → suc i < length line → is_tag line i ≡ false → take i line ++ before_tag (drop i line) ≡ take (suc i) line ++ before_tag (drop (suc i) line)
tag-next [] i within other = absurd (omega (arith, within))
tag-next (b ∷ []) i within other = absurd (omega (arith, within))
tag-next (b ∷ c ∷ bs) zero within other = ap (λ t. cond t [] (b ∷ before_tag (c ∷ bs))) other
tag-next (b ∷ c ∷ bs) (suc i) within other = ap (λ xs. b ∷ xs) (tag-next (c ∷ bs) i (omega (arith, within)) other)

-- a tag begins there
pub tag-found : (line : List ℕ) (i : ℕ) → suc i < length line → is_tag line i ≡ true → take i line ≡ take i line ++ before_tag (drop i line)
tag-found [] i within is = absurd (omega (arith, within))
tag-found (b ∷ []) i within is = absurd (omega (arith, within))
tag-found (b ∷ c ∷ bs) zero within is = sym (ap (λ t. cond t [] (b ∷ before_tag (c ∷ bs))) is)
tag-found (b ∷ c ∷ bs) (suc i) within is = ap (λ xs. b ∷ xs) (tag-found (c ∷ bs) i (omega (arith, within)) is)

no_tag : (t : Bool) (b : ℕ) → cond (t && false) [] (b ∷ []) ≡ b ∷ []
no_tag true b = refl
no_tag false b = refl

-- at the last byte no tag begins
pub tag-last : (line : List ℕ) (i : ℕ) → length line ≤ suc i → take i line ++ before_tag (drop i line) ≡ line
tag-last [] zero past = refl
tag-last [] (suc i) past = refl
tag-last (b ∷ []) zero past = no_tag (b == 32) b
tag-last (b ∷ c ∷ bs) zero past = absurd (omega (arith, past))
tag-last (b ∷ bs) (suc i) past = ap (λ xs. b ∷ xs) (tag-last bs i (omega (arith, past)))

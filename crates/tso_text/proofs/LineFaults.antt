-- Faults of lines by a function of their tokens: where it finds what stands in a text, it finds the faults among it.
use Rattle.std.proofs.Common.{◌≡◌, ℕ, cond, List, [], ◌∷◌, get_or, Option, Some, None, refl, ap, sym, ◌∙◌, inl, inr}
use Rattle.std.specs.Prelude.{codes}
use Rattle.std.specs.Str.{bytes_eq}
use Rattle.tso_text.specs.declared.faults.Why.{Why}
use Rattle.tso_text.specs.declared.faults.Why.TheVariants.{BadNumber, BadModel}
use Rattle.tso_text.specs.Refusals.{HasShape, IsFaultAmong}

-- ---- shapes

-- the fault of tokens of the shape of a line that are none
abbrev pub shape_fault : List (List ℕ) → Why
shape_fault line = cond (bytes_eq (get_or line 0 []) (codes "model")) BadModel BadNumber

pub shape_self : (ps line : List (List ℕ)) → HasShape ps line → HasShape ps ps
shape_self [] line has = absurd has
shape_self (word ∷ ps) line has = (refl, refl)

pub shape_same : (ps line other : List (List ℕ)) → HasShape ps line → HasShape ps other → shape_fault line ≡ shape_fault other
shape_same [] line other has also = absurd has
shape_same (word ∷ ps) [] other has also = absurd has
shape_same (word ∷ ps) (keyword ∷ rest) [] has also = absurd also
shape_same (word ∷ ps) (keyword ∷ rest) (another ∷ others) has also = ap (λ w. cond (bytes_eq w (codes "model")) BadModel BadNumber) (sym has.0 ∙ also.0)

-- tokens of the shape of a word alone
pub word_shape : (ps : List (List ℕ)) (word : List ℕ) → HasShape ps (word ∷ []) → ps ≡ word ∷ []
word_shape [] word has = absurd has
word_shape (w ∷ []) word has = ap (λ v. v ∷ []) has.0
word_shape (w ∷ p ∷ ps) word has = absurd (let n = has.1 in cc)

-- ---- faults by a function

-- what the outcome of a line is: a fault, or a line without one
abbrev pub Classified : (List (List ℕ) → Option Why → Type 0) → List (List ℕ) → Option Why → Type 0
Classified Stands ps None = Stands ps None
Classified Stands ps (Some why) = IsFaultAmong Stands ps why

pub standing : (Stands : List (List ℕ) → Option Why → Type 0) (ps : List (List ℕ)) (o : Option Why) → Stands ps o → Classified Stands ps o
standing Stands ps None is = is
standing Stands ps (Some why) is = inl is

-- a function that gives each line's fault
pub record Faults (Stands : List (List ℕ) → Option Why → Type 0) (fault : List (List ℕ) → Option Why) : Type 0 where
  pub classified : (ps : List (List ℕ)) → Classified Stands ps (fault ps)
  pub stands : (ps : List (List ℕ)) (o : Option Why) → Stands ps o → fault ps ≡ o
  pub self : (ps : List (List ℕ)) (o : Option Why) → Stands ps o → HasShape ps ps

one_fault : (Stands : List (List ℕ) → Option Why → Type 0) (fault : List (List ℕ) → Option Why) → Faults Stands fault → (ps : List (List ℕ)) (v w : Why) → IsFaultAmong Stands ps v → IsFaultAmong Stands ps w → v ≡ w
one_fault Stands fault is ps v w (inl one) (inl other) = let s : Some v ≡ Some w = sym (is.stands ps (Some v) one) ∙ is.stands ps (Some w) other in cc
one_fault Stands fault is ps v w (inl one) (inr (inl other)) = absurd (other.0 (Some v) one)
one_fault Stands fault is ps v w (inl one) (inr (inr other)) = absurd (other.0 ps (Some v) one (is.self ps (Some v) one))
one_fault Stands fault is ps v w (inr (inl one)) (inl other) = absurd (one.0 (Some w) other)
one_fault Stands fault is ps v w (inr (inl one)) (inr (inl other)) = one.1.4 ∙ shape_same ps one.1.0 other.1.0 one.1.3 other.1.3 ∙ sym other.1.4
one_fault Stands fault is ps v w (inr (inl one)) (inr (inr other)) = absurd (other.0 one.1.0 one.1.1 one.1.2 one.1.3)
one_fault Stands fault is ps v w (inr (inr one)) (inl other) = absurd (one.0 ps (Some w) other (is.self ps (Some w) other))
one_fault Stands fault is ps v w (inr (inr one)) (inr (inl other)) = absurd (one.0 other.1.0 other.1.1 other.1.2 other.1.3)
one_fault Stands fault is ps v w (inr (inr one)) (inr (inr other)) = one.1 ∙ sym other.1

-- the fault of a line is what the function gives
pub fault_is : (Stands : List (List ℕ) → Option Why → Type 0) (fault : List (List ℕ) → Option Why) → Faults Stands fault → (ps : List (List ℕ)) (why : Why) → IsFaultAmong Stands ps why → fault ps ≡ Some why
fault_is Stands fault is ps why has = by (fault ps) refl (is.classified ps)
  where
    none : Stands ps None → IsFaultAmong Stands ps why → fault ps ≡ Some why
    none st (inl other) = is.stands ps (Some why) other
    none st (inr (inl other)) = absurd (other.0 None st)
    none st (inr (inr other)) = absurd (other.0 ps None st (is.self ps None st))

    by : (o : Option Why) → fault ps ≡ o → Classified Stands ps o → fault ps ≡ Some why
    by None at c = none c has
    by (Some v) at c = at ∙ ap Some (one_fault Stands fault is ps v why c has)

-- Lines of a refutation by values have one refusal at most.
use Rattle.std.proofs.Common.{◌≡◌, ◌∙◌, ◌⊎◌, inl, inr, sym, ap, subst, refl, ℕ, suc, ◌+◌, ◌<◌, ◌≤◌, List, [], ◌∷◌, ◌++◌, length, take, drop, append_assoc, arith}
use Rattle.std.proofs.lemmas.Bool.{cases_lt}
use Rattle.std.proofs.lemmas.List.{append-nil, take-take, take-append-drop}
use Rattle.tso_ops.specs.Values.{TraceValue}
use Rattle.value_evidence.specs.declared.steps.ValueStep.{ValueStep}
use Rattle.value_evidence.specs.declared.steps.ValueStep.TheVariants.{Read}
use Rattle.value_evidence.specs.declared.refutations.ValueRefutationLine.{ValueRefutationLine}
use Rattle.value_evidence.specs.Refutations.{ValueRefutation, end, step, by_source, by_order, value_lines_of, IsValueRefutation, supposed_before, HoldsBeside}
use Rattle.value_evidence.proofs.RefutationFacts.{one_refutation}
use Rattle.value_check.specs.declared.refusals.ValueRefutationFault.{ValueRefutationFault}
use Rattle.value_check.specs.declared.refusals.ValueRefutationFault.TheVariants.{Misplaced, Unfinished, StepRefused, CaseRefused, EndRefused}
use Rattle.value_check.specs.RefutationRefusals.{IsValueBeginning, IsValueStructureFault, HasFirstValueFault, IsValueRefutationRefusal}

-- ---- which fault the structure has

beginning_less : (before more : List ValueRefutationLine) → IsValueBeginning (before ++ more) → IsValueBeginning before
beginning_less before more (rest, whole) = (more ++ rest, subst IsValueRefutation (append_assoc before more rest) whole)

-- fewer lines of a beginning are one too
beginning_of_all : (lines : List ValueRefutationLine) (k : ℕ) → IsValueBeginning lines → IsValueBeginning (take k lines)
beginning_of_all lines k whole = beginning_less (take k lines) (drop k lines) (subst IsValueBeginning (sym (take-append-drop k lines)) whole)

beginning_of_more : (lines : List ValueRefutationLine) (j k : ℕ) → j ≤ k → IsValueBeginning (take k lines) → IsValueBeginning (take j lines)
beginning_of_more lines j k most whole = subst IsValueBeginning (take-take j k lines most) (beginning_of_all (take k lines) j whole)

whole_is_beginning : (lines : List ValueRefutationLine) → IsValueRefutation lines → IsValueBeginning lines
whole_is_beginning lines whole = ([], subst IsValueRefutation (sym (append-nil lines)) whole)

abbrev IsMisplacedAt : List ValueRefutationLine → ℕ → Type 0
IsMisplacedAt lines k = IsValueBeginning (take k lines) × (IsValueBeginning (take (suc k) lines) → ⊥)

structure_kind : (lines : List ValueRefutationLine) (fault : ValueRefutationFault) → IsValueStructureFault lines fault →
    ((k : ℕ) × (fault ≡ Misplaced (suc k)) × IsMisplacedAt lines k) ⊎ ((fault ≡ Unfinished) × IsValueBeginning lines × (IsValueRefutation lines → ⊥))
structure_kind lines (Misplaced line) has = inl (has.0, ap Misplaced has.1, (has.3, has.4))
structure_kind lines Unfinished has = inr (refl, has.0, has.1)
structure_kind lines (StepRefused line) has = absurd has
structure_kind lines (CaseRefused line) has = absurd has
structure_kind lines (EndRefused line) has = absurd has

-- a line before the misplaced one isn't misplaced
not_earlier : (lines : List ValueRefutationLine) (j k : ℕ) → IsMisplacedAt lines j → IsMisplacedAt lines k → j < k → ⊥
not_earlier lines j k first other before = first.1 (beginning_of_more lines (suc j) k (omega (arith, before)) other.0)

one_structure_fault : (lines : List ValueRefutationLine) (f g : ValueRefutationFault) → IsValueStructureFault lines f → IsValueStructureFault lines g → f ≡ g
one_structure_fault lines f g has other = by_kind (structure_kind lines f has) (structure_kind lines g other)
  where
    by_kind : ((k : ℕ) × (f ≡ Misplaced (suc k)) × IsMisplacedAt lines k) ⊎ ((f ≡ Unfinished) × IsValueBeginning lines × (IsValueRefutation lines → ⊥)) →
        ((k : ℕ) × (g ≡ Misplaced (suc k)) × IsMisplacedAt lines k) ⊎ ((g ≡ Unfinished) × IsValueBeginning lines × (IsValueRefutation lines → ⊥)) → f ≡ g
    by_kind (inl (j, first, at)) (inl (k, second, also)) = elim (cases_lt j k) [
      | inl before ↦ absurd (not_earlier lines j k at also before)
      | inr not_before ↦ elim (cases_lt k j) [
        | inl after ↦ absurd (not_earlier lines k j also at after)
        | inr not_after ↦ (let place : j ≡ k = omega arith in first ∙ ap (λ n. Misplaced (suc n)) place ∙ sym second)
      ]
    ]
    by_kind (inl (j, first, at)) (inr some) = absurd (at.1 (beginning_of_all lines (suc j) some.1))
    by_kind (inr some) (inl (k, second, also)) = absurd (also.1 (beginning_of_all lines (suc k) some.1))
    by_kind (inr some) (inr also) = some.0 ∙ sym also.0

whole_structure : (lines : List ValueRefutationLine) (f : ValueRefutationFault) → IsValueRefutation lines → IsValueStructureFault lines f → ⊥
whole_structure lines f whole has = elim (structure_kind lines f has) [
  | inl misplaced ↦ misplaced.2.1 (beginning_of_all lines (suc misplaced.0) (whole_is_beginning lines whole))
  | inr some ↦ some.2 whole
]

-- ---- which fault a refutation has

-- one that holds has none
no_fault : (t : TraceValue) (steps : List ValueStep) (aside : List (ℕ × ℕ)) (number : ℕ) (r : ValueRefutation) (f : ValueRefutationFault) → HoldsBeside t steps aside r → HasFirstValueFault t steps aside number r f → ⊥
no_fault t steps aside number (end e) f holds has = has.1 holds
no_fault t steps aside number (step s rest) f holds (inl here) = here.1 holds.0
no_fault t steps aside number (step s rest) f holds (inr later) = no_fault t (steps ++ s ∷ []) aside (suc number) rest f holds.1 later.1
no_fault t steps aside number (by_source load source first second) f holds (inl here) = here.1 holds.0
no_fault t steps aside number (by_source load source first second) f holds (inr (inl one)) = no_fault t (steps ++ Read load source ∷ []) aside (suc number) first f holds.1 one.1
no_fault t steps aside number (by_source load source first second) f holds (inr (inr one)) =
    no_fault t steps (aside ++ (load, source) ∷ []) (suc (suc number + length (value_lines_of first))) second f holds.2 one.2
no_fault t steps aside number (by_order u v first second) f holds (inl here) = here.1 holds.0
no_fault t steps aside number (by_order u v first second) f holds (inr (inl one)) = no_fault t (steps ++ supposed_before u v ∷ []) aside (suc number) first f holds.1 one.1
no_fault t steps aside number (by_order u v first second) f holds (inr (inr one)) =
    no_fault t (steps ++ supposed_before v u ∷ []) aside (suc (suc number + length (value_lines_of first))) second f holds.2 one.2

one_first_fault : (t : TraceValue) (steps : List ValueStep) (aside : List (ℕ × ℕ)) (number : ℕ) (r : ValueRefutation) (f g : ValueRefutationFault) → HasFirstValueFault t steps aside number r f →
    HasFirstValueFault t steps aside number r g → f ≡ g
one_first_fault t steps aside number (end e) f g has other = has.0 ∙ sym other.0
one_first_fault t steps aside number (step s rest) f g (inl here) (inl also) = here.0 ∙ sym also.0
one_first_fault t steps aside number (step s rest) f g (inl here) (inr later) = absurd (here.1 later.0)
one_first_fault t steps aside number (step s rest) f g (inr later) (inl here) = absurd (here.1 later.0)
one_first_fault t steps aside number (step s rest) f g (inr later) (inr also) = one_first_fault t (steps ++ s ∷ []) aside (suc number) rest f g later.1 also.1
one_first_fault t steps aside number (by_source load source first second) f g (inl here) (inl also) = here.0 ∙ sym also.0
one_first_fault t steps aside number (by_source load source first second) f g (inl here) (inr (inl later)) = absurd (here.1 later.0)
one_first_fault t steps aside number (by_source load source first second) f g (inl here) (inr (inr later)) = absurd (here.1 later.0)
one_first_fault t steps aside number (by_source load source first second) f g (inr (inl later)) (inl here) = absurd (here.1 later.0)
one_first_fault t steps aside number (by_source load source first second) f g (inr (inr later)) (inl here) = absurd (here.1 later.0)
one_first_fault t steps aside number (by_source load source first second) f g (inr (inl one)) (inr (inl also)) = one_first_fault t (steps ++ Read load source ∷ []) aside (suc number) first f g one.1 also.1
one_first_fault t steps aside number (by_source load source first second) f g (inr (inl one)) (inr (inr later)) =
    absurd (no_fault t (steps ++ Read load source ∷ []) aside (suc number) first f later.1 one.1)
one_first_fault t steps aside number (by_source load source first second) f g (inr (inr later)) (inr (inl one)) =
    absurd (no_fault t (steps ++ Read load source ∷ []) aside (suc number) first g later.1 one.1)
one_first_fault t steps aside number (by_source load source first second) f g (inr (inr one)) (inr (inr also)) =
    one_first_fault t steps (aside ++ (load, source) ∷ []) (suc (suc number + length (value_lines_of first))) second f g one.2 also.2
one_first_fault t steps aside number (by_order u v first second) f g (inl here) (inl also) = here.0 ∙ sym also.0
one_first_fault t steps aside number (by_order u v first second) f g (inl here) (inr (inl later)) = absurd (here.1 later.0)
one_first_fault t steps aside number (by_order u v first second) f g (inl here) (inr (inr later)) = absurd (here.1 later.0)
one_first_fault t steps aside number (by_order u v first second) f g (inr (inl later)) (inl here) = absurd (here.1 later.0)
one_first_fault t steps aside number (by_order u v first second) f g (inr (inr later)) (inl here) = absurd (here.1 later.0)
one_first_fault t steps aside number (by_order u v first second) f g (inr (inl one)) (inr (inl also)) = one_first_fault t (steps ++ supposed_before u v ∷ []) aside (suc number) first f g one.1 also.1
one_first_fault t steps aside number (by_order u v first second) f g (inr (inl one)) (inr (inr later)) =
    absurd (no_fault t (steps ++ supposed_before u v ∷ []) aside (suc number) first f later.1 one.1)
one_first_fault t steps aside number (by_order u v first second) f g (inr (inr later)) (inr (inl one)) =
    absurd (no_fault t (steps ++ supposed_before u v ∷ []) aside (suc number) first g later.1 one.1)
one_first_fault t steps aside number (by_order u v first second) f g (inr (inr one)) (inr (inr also)) =
    one_first_fault t (steps ++ supposed_before v u ∷ []) aside (suc (suc number + length (value_lines_of first))) second f g one.2 also.2

pub one_refusal : (t : TraceValue) (lines : List ValueRefutationLine) (f g : ValueRefutationFault) → IsValueRefutationRefusal t lines f → IsValueRefutationRefusal t lines g → f ≡ g
one_refusal t lines f g (inl has) (inl other) = one_structure_fault lines f g has other
one_refusal t lines f g (inl has) (inr (r, is, fault)) = absurd (whole_structure lines f (r, is) has)
one_refusal t lines f g (inr (r, is, fault)) (inl has) = absurd (whole_structure lines g (r, is) has)
one_refusal t lines f g (inr (r, is, has)) (inr (other, also, has_too)) =
    one_first_fault t [] [] 1 r f g has (subst (λ q. HasFirstValueFault t [] [] 1 q g) (one_refutation other r (sym also ∙ is)) has_too)

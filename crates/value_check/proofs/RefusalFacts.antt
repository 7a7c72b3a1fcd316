-- Lines that are a refutation which holds get no refusal.
use Rattle.std.proofs.Common.{◌∙◌, inl, inr, sym, subst, ℕ, suc, ◌+◌, List, [], ◌∷◌, ◌++◌, length, take, drop}
use Rattle.std.proofs.lemmas.List.{take-append-drop}
use Rattle.tso_ops.specs.Values.{TraceValue}
use Rattle.value_evidence.specs.declared.steps.ValueStep.{ValueStep}
use Rattle.value_evidence.specs.declared.steps.ValueStep.TheVariants.{Read}
use Rattle.value_evidence.specs.declared.refutations.ValueRefutationLine.{ValueRefutationLine}
use Rattle.value_evidence.specs.Refutations.{ValueRefutation, end, step, by_source, by_order, value_lines_of, IsValueRefutation, supposed_before, HoldsBeside, ValueRefutationHolds}
use Rattle.value_evidence.proofs.RefutationFacts.{one_refutation}
use Rattle.value_check.specs.declared.refusals.ValueRefutationFault.{ValueRefutationFault}
use Rattle.value_check.specs.declared.refusals.ValueRefutationFault.TheVariants.{Misplaced, Unfinished, StepRefused, CaseRefused, EndRefused}
use Rattle.value_check.specs.RefutationRefusals.{IsValueBeginning, IsValueStructureFault, HasFirstValueFault, IsValueRefutationRefusal}

-- the first lines of a refutation are a beginning
beginning_of_whole : (lines : List ValueRefutationLine) (k : ℕ) → IsValueRefutation lines → IsValueBeginning (take k lines)
beginning_of_whole lines k whole = (drop k lines, subst IsValueRefutation (sym (take-append-drop k lines)) whole)

whole_structure : (lines : List ValueRefutationLine) (fault : ValueRefutationFault) → IsValueRefutation lines → IsValueStructureFault lines fault → ⊥
whole_structure lines (Misplaced line) whole has = has.4 (beginning_of_whole lines (suc has.0) whole)
whole_structure lines Unfinished whole has = has.1 whole
whole_structure lines (StepRefused line) whole has = has
whole_structure lines (CaseRefused line) whole has = has
whole_structure lines (EndRefused line) whole has = has

-- a refutation that holds has no fault
no_fault : (t : TraceValue) (steps : List ValueStep) (aside : List (ℕ × ℕ)) (number : ℕ) (r : ValueRefutation) (fault : ValueRefutationFault) →
    HoldsBeside t steps aside r → HasFirstValueFault t steps aside number r fault → ⊥
no_fault t steps aside number (end e) fault holds has = has.1 holds
no_fault t steps aside number (step s rest) fault holds (inl here) = here.1 holds.0
no_fault t steps aside number (step s rest) fault holds (inr later) = no_fault t (steps ++ s ∷ []) aside (suc number) rest fault holds.1 later.1
no_fault t steps aside number (by_source load source first second) fault holds (inl here) = here.1 holds.0
no_fault t steps aside number (by_source load source first second) fault holds (inr (inl has)) =
    no_fault t (steps ++ Read load source ∷ []) aside (suc number) first fault holds.1 has.1
no_fault t steps aside number (by_source load source first second) fault holds (inr (inr has)) =
    no_fault t steps (aside ++ (load, source) ∷ []) (suc (suc number + length (value_lines_of first))) second fault holds.2 has.2
no_fault t steps aside number (by_order u v first second) fault holds (inl here) = here.1 holds.0
no_fault t steps aside number (by_order u v first second) fault holds (inr (inl has)) =
    no_fault t (steps ++ supposed_before u v ∷ []) aside (suc number) first fault holds.1 has.1
no_fault t steps aside number (by_order u v first second) fault holds (inr (inr has)) =
    no_fault t (steps ++ supposed_before v u ∷ []) aside (suc (suc number + length (value_lines_of first))) second fault holds.2 has.2

pub not_refused : (t : TraceValue) (lines : List ValueRefutationLine) (fault : ValueRefutationFault) → ValueRefutationHolds t lines →
    IsValueRefutationRefusal t lines fault → ⊥
not_refused t lines fault holds (inl structure) = whole_structure lines fault (holds.0, holds.1) structure
not_refused t lines fault (r, is, holds) (inr (other, also, has)) =
    no_fault t [] [] 1 r fault holds (subst (λ q. HasFirstValueFault t [] [] 1 q fault) (one_refutation other r (sym also ∙ is)) has)

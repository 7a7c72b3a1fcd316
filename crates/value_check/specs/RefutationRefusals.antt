-- Which refusal lines get that are no refutation by values, or one that doesn't hold.
use Rattle.std.specs.Prelude.{◌≡◌, ◌⊎◌, ℕ, suc, ◌+◌, ◌<◌, List, [], ◌∷◌, ◌++◌, length, take}
use Rattle.tso_ops.specs.Values.{TraceValue}
use Rattle.tso_ops.specs.Events.{IsLoad}
use Rattle.value_evidence.specs.declared.steps.ValueStep.{ValueStep}
use Rattle.value_evidence.specs.declared.steps.ValueStep.TheVariants.{Read}
use Rattle.value_evidence.specs.declared.refutations.ValueRefutationLine.{ValueRefutationLine}
use Rattle.value_evidence.specs.Evidence.{ValueStepHolds}
use Rattle.value_evidence.specs.Refutations.{ValueRefutation, end, step, by_source, by_order, value_lines_of, IsValueRefutation, supposed_before, AreTwoLogEvents, EndHoldsBeside, HoldsBeside}
use Rattle.value_check.specs.declared.refusals.ValueRefutationFault.{ValueRefutationFault}
use Rattle.value_check.specs.declared.refusals.ValueRefutationFault.TheVariants.{Misplaced, Unfinished, StepRefused, CaseRefused, EndRefused}

-- ---- the structure

-- with some more lines these are those of a refutation
abbrev pub IsValueBeginning : List ValueRefutationLine → Type 0
IsValueBeginning lines = (rest : List ValueRefutationLine) × IsValueRefutation (lines ++ rest)

-- the fault of lines that aren't those of a refutation
abbrev pub IsValueStructureFault : List ValueRefutationLine → ValueRefutationFault → Type 0
-- the lines before this one are the beginning of some refutation's, and with it they aren't
IsValueStructureFault lines (Misplaced line) =
    (k : ℕ) × (line ≡ suc k) × (k < length lines) × IsValueBeginning (take k lines) × (IsValueBeginning (take (suc k) lines) → ⊥)
-- lines are missing at the end
IsValueStructureFault lines Unfinished = IsValueBeginning lines × (IsValueRefutation lines → ⊥)
IsValueStructureFault lines (StepRefused line) = ⊥
IsValueStructureFault lines (CaseRefused line) = ⊥
IsValueStructureFault lines (EndRefused line) = ⊥

-- ---- the lines, one after the other

-- The first line with a fault has this one, where the refutation begins on the line with this number, and these steps are in force there and these
-- sources of loads set aside.
abbrev pub HasFirstValueFault : TraceValue → List ValueStep → List (ℕ × ℕ) → ℕ → ValueRefutation → ValueRefutationFault → Type 0
HasFirstValueFault t steps aside number (end e) fault = (fault ≡ EndRefused number) × (EndHoldsBeside t steps aside e → ⊥)
HasFirstValueFault t steps aside number (step s rest) fault =
    ((fault ≡ StepRefused number) × (ValueStepHolds t steps s → ⊥))
    ⊎ (ValueStepHolds t steps s × HasFirstValueFault t (steps ++ s ∷ []) aside (suc number) rest fault)
-- the first part begins on the next line, and the second after the line `Else`, which follows the first part
HasFirstValueFault t steps aside number (by_source load source first second) fault =
    ((fault ≡ CaseRefused number) × (IsLoad t load → ⊥))
    ⊎ (IsLoad t load × HasFirstValueFault t (steps ++ Read load source ∷ []) aside (suc number) first fault)
    ⊎ (IsLoad t load × HoldsBeside t (steps ++ Read load source ∷ []) aside first
    × HasFirstValueFault t steps (aside ++ (load, source) ∷ []) (suc (suc number + length (value_lines_of first))) second fault)
HasFirstValueFault t steps aside number (by_order u v first second) fault =
    ((fault ≡ CaseRefused number) × (AreTwoLogEvents t u v → ⊥))
    ⊎ (AreTwoLogEvents t u v × HasFirstValueFault t (steps ++ supposed_before u v ∷ []) aside (suc number) first fault)
    ⊎ (AreTwoLogEvents t u v × HoldsBeside t (steps ++ supposed_before u v ∷ []) aside first
    × HasFirstValueFault t (steps ++ supposed_before v u ∷ []) aside (suc (suc number + length (value_lines_of first))) second fault)

-- The lines are those of a refutation whose first line with a fault has this one. Lines count from 1.
abbrev pub IsFaultOfValueLines : TraceValue → List ValueRefutationLine → ValueRefutationFault → Type 0
IsFaultOfValueLines t lines fault = (r : ValueRefutation) × (lines ≡ value_lines_of r) × HasFirstValueFault t [] [] 1 r fault

-- The refusal of lines: their structure before all else, then the first line with a fault.
abbrev pub IsValueRefutationRefusal : TraceValue → List ValueRefutationLine → ValueRefutationFault → Type 0
IsValueRefutationRefusal t lines fault = IsValueStructureFault lines fault ⊎ IsFaultOfValueLines t lines fault

-- How far the check of lines has come.
use Rattle.std.specs.Prelude.{◌≡◌, ◌⊎◌, ℕ, suc, List, [], ◌∷◌, Option, None, Some}
use Rattle.tso_ops.specs.Values.{TraceValue}
use Rattle.tso_ops.specs.Events.{IsLoad}
use Rattle.value_evidence.specs.declared.refutations.ValueRefutationLine.{ValueRefutationLine}
use Rattle.value_evidence.specs.declared.refutations.ValueRefutationLine.TheVariants.{Step, ReadCase, BeforeCase, Else, End}
use Rattle.value_evidence.specs.Evidence.{ValueStepHolds}
use Rattle.value_evidence.specs.Refutations.{AreTwoLogEvents, EndHoldsBeside}
use Rattle.value_check.specs.declared.refusals.ValueRefutationFault.{ValueRefutationFault}
use Rattle.value_check.specs.declared.refusals.ValueRefutationFault.TheVariants.{StepRefused, CaseRefused, EndRefused}
use Rattle.value_check.specs.Internal.InForce.{Place, after}

-- the line has no fault at this place
abbrev pub LineHolds : TraceValue → Place → ValueRefutationLine → Type 0
LineHolds t p (Step s) = ValueStepHolds t p.steps s
LineHolds t p (ReadCase load source) = IsLoad t load
LineHolds t p (BeforeCase u v) = AreTwoLogEvents t u v
LineHolds t p Else = Unit {0}
LineHolds t p (End e) = EndHoldsBeside t p.steps p.aside e

-- the line with this number has the fault
abbrev pub HasLineFault : TraceValue → Place → ℕ → ValueRefutationLine → ValueRefutationFault → Type 0
HasLineFault t p number (Step s) fault = (fault ≡ StepRefused number) × (ValueStepHolds t p.steps s → ⊥)
HasLineFault t p number (ReadCase load source) fault = (fault ≡ CaseRefused number) × (IsLoad t load → ⊥)
HasLineFault t p number (BeforeCase u v) fault = (fault ≡ CaseRefused number) × (AreTwoLogEvents t u v → ⊥)
HasLineFault t p number Else fault = ⊥
HasLineFault t p number (End e) fault = (fault ≡ EndRefused number) × (EndHoldsBeside t p.steps p.aside e → ⊥)

-- These lines, of which the first has this number, have no fault from this place on; or the first of them with one has this fault.
abbrev pub Walks : TraceValue → Place → ℕ → List ValueRefutationLine → Option ValueRefutationFault → Type 0
Walks t p number [] answer = answer ≡ None
Walks t p number (line ∷ rest) answer =
    ((fault : ValueRefutationFault) × (answer ≡ Some fault) × HasLineFault t p number line fault)
    ⊎ (LineHolds t p line × Walks t (after line p) (suc number) rest answer)

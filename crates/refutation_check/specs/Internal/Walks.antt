-- How far the check of lines has come.
use Rattle.std.specs.Prelude.{◌≡◌, ◌⊎◌, ℕ, suc, List, [], ◌∷◌, length, take, Option, None, Some}
use Rattle.tso_ops.specs.Values.{TraceValue}
use Rattle.tso_evidence.specs.declared.refutations.RefutationLine.{RefutationLine}
use Rattle.tso_evidence.specs.declared.refutations.RefutationLine.TheVariants.{Step, Case, Else, Cycle}
use Rattle.order_paths.specs.Paths.{IsCycle}
use Rattle.refutation_check.specs.declared.faults.RefutationFault.{RefutationFault}
use Rattle.refutation_check.specs.declared.pairs.Pair.{Pair}
use Rattle.refutation_check.specs.Refutations.{AreTwoEvents, StepHoldsOver}
use Rattle.refutation_check.specs.Refusals.{HasStepFault, HasCaseFault, HasCycleFault}
use Rattle.refutation_check.specs.Internal.Pairs.{InForce, IsWith}

-- the line has no fault where these pairs are in force
abbrev pub LineHolds : TraceValue → List Pair → RefutationLine → Type 0
LineHolds t pairs (Step s) = StepHoldsOver t (InForce pairs) s
LineHolds t pairs (Case u v) = AreTwoEvents t u v
LineHolds t pairs (Else u v) = Unit {0}
LineHolds t pairs (Cycle numbers) = IsCycle (InForce pairs) numbers

-- the line with this number has the fault
abbrev pub HasLineFault : TraceValue → List Pair → ℕ → RefutationLine → RefutationFault → Type 0
HasLineFault t pairs number (Step s) fault = HasStepFault t (InForce pairs) number s fault
HasLineFault t pairs number (Case u v) fault = HasCaseFault t number u v fault
HasLineFault t pairs number (Else u v) fault = ⊥
HasLineFault t pairs number (Cycle numbers) fault = HasCycleFault (InForce pairs) number numbers fault

-- The pairs in force after the line, and, for each open case from the last one, how many there were where it came.
abbrev pub IsAfter : RefutationLine → List Pair → List ℕ → List Pair → List ℕ → Type 0
IsAfter (Step s) pairs cases next others = IsWith pairs s.from s.to next × (others ≡ cases)
IsAfter (Case u v) pairs cases next others = IsWith pairs u v next × (others ≡ length pairs ∷ cases)
-- no refutation has a second part where no case is open
IsAfter (Else u v) pairs [] next others = Unit {0}
IsAfter (Else u v) pairs (count ∷ cases) next others = IsWith (take count pairs) u v next × (others ≡ cases)
IsAfter (Cycle numbers) pairs cases next others = (next ≡ pairs) × (others ≡ cases)

-- These lines, of which the first has this number, have no fault where these pairs are in force; or the first of them with one has this fault.
abbrev pub Walks : TraceValue → List Pair → List ℕ → ℕ → List RefutationLine → Option RefutationFault → Type 0
Walks t pairs cases number [] answer = answer ≡ None
Walks t pairs cases number (line ∷ rest) answer =
    ((fault : RefutationFault) × (answer ≡ Some fault) × HasLineFault t pairs number line fault)
    ⊎ (LineHolds t pairs line
    × ((next : List Pair) × (others : List ℕ) × IsAfter line pairs cases next others × Walks t next others (suc number) rest answer))

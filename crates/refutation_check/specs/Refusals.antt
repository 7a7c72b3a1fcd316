-- Which refusal lines get that are no refutation, or one that doesn't hold.
use Rattle.std.specs.Prelude.{◌≡◌, ◌≢◌, ◌⊎◌, ℕ, suc, ◌+◌, ◌<◌, ◌≤◌, List, [], ◌++◌, length, take, All, Some, slice_get}
use Rattle.tso_ops.specs.Values.{TraceValue}
use Rattle.tso_ops.specs.Events.{event_total}
use Rattle.tso_cert.specs.declared.steps.CertStep.{CertStep}
use Rattle.tso_evidence.specs.declared.refutations.RefutationLine.{RefutationLine}
use Rattle.tso_evidence.specs.declared.refutations.RefutationLine.TheVariants.{Step, Case, Else, Cycle}
use Rattle.tso_evidence.specs.Refutations.{Refutation, cycle, step, split, lines_of, IsRefutation}
use Rattle.order_paths.specs.Paths.{IsCycle}
use Rattle.tso_model.specs.Certs.{MeetsRule, IsPathIn}
use Rattle.cert_check.specs.Refusals.{AreUpTo, IsStepUpTo, IsBase}
use Rattle.refutation_check.specs.declared.faults.RefutationFault.{RefutationFault}
use Rattle.refutation_check.specs.declared.faults.RefutationFault.TheVariants.{Misplaced, Unfinished, EventRange, BaseRefused, SideRefused, PathUnlisted, CaseRefused, CycleUnlisted, EmptyCycle}
use Rattle.refutation_check.specs.Refutations.{NoPair, WithPair, AreTwoEvents, StepHoldsOver, HoldsUnder}

-- ---- the structure

-- with some more lines these are those of a refutation
abbrev pub IsBeginning : List RefutationLine → Type 0
IsBeginning lines = (rest : List RefutationLine) × IsRefutation (lines ++ rest)

-- the fault of lines that aren't those of a refutation
abbrev pub IsStructureFault : List RefutationLine → RefutationFault → Type 0
-- the lines before this one are the beginning of some refutation's, and with it they aren't
IsStructureFault lines (Misplaced line) =
    (k : ℕ) × (line ≡ suc k) × (k < length lines) × IsBeginning (take k lines) × (IsBeginning (take (suc k) lines) → ⊥)
-- lines are missing at the end
IsStructureFault lines Unfinished = IsBeginning lines × (IsRefutation lines → ⊥)
IsStructureFault lines EventRange = ⊥
IsStructureFault lines (BaseRefused line) = ⊥
IsStructureFault lines (SideRefused line) = ⊥
IsStructureFault lines (PathUnlisted line) = ⊥
IsStructureFault lines (CaseRefused line) = ⊥
IsStructureFault lines (CycleUnlisted line) = ⊥
IsStructureFault lines (EmptyCycle line) = ⊥

-- ---- the numbers

-- the numbers of a line are none above this one
abbrev pub IsLineUpTo : ℕ → RefutationLine → Type 0
IsLineUpTo last (Step s) = IsStepUpTo last s
IsLineUpTo last (Case u v) = (u ≤ last) × (v ≤ last)
IsLineUpTo last (Else u v) = (u ≤ last) × (v ≤ last)
IsLineUpTo last (Cycle numbers) = AreUpTo last numbers

-- No number of the lines is above the number of events.
abbrev pub AreLinesInRange : TraceValue → List RefutationLine → Type 0
AreLinesInRange t lines = All (IsLineUpTo (event_total t)) lines

-- ---- the lines, one after the other

-- The step on the line with this number has the fault, where these pairs are in force.
abbrev pub HasStepFault : TraceValue → (ℕ → ℕ → Type 0) → ℕ → CertStep → RefutationFault → Type 0
HasStepFault t Pair number s (BaseRefused line) = (line ≡ number) × IsBase s.reason × (MeetsRule t s.from s.to s.reason → ⊥)
HasStepFault t Pair number s (SideRefused line) = (line ≡ number) × (IsBase s.reason → ⊥) × (MeetsRule t s.from s.to s.reason → ⊥)
HasStepFault t Pair number s (PathUnlisted line) = (line ≡ number) × MeetsRule t s.from s.to s.reason × (IsPathIn Pair s.reason → ⊥)
HasStepFault t Pair number s (Misplaced line) = ⊥
HasStepFault t Pair number s Unfinished = ⊥
HasStepFault t Pair number s EventRange = ⊥
HasStepFault t Pair number s (CaseRefused line) = ⊥
HasStepFault t Pair number s (CycleUnlisted line) = ⊥
HasStepFault t Pair number s (EmptyCycle line) = ⊥

-- the cycle on the line with this number has the fault, where these pairs are in force
abbrev pub HasCycleFault : (ℕ → ℕ → Type 0) → ℕ → List ℕ → RefutationFault → Type 0
HasCycleFault Pair number numbers (CycleUnlisted line) = (line ≡ number) × (numbers ≢ []) × (IsCycle Pair numbers → ⊥)
HasCycleFault Pair number numbers (EmptyCycle line) = (line ≡ number) × (numbers ≡ [])
HasCycleFault Pair number numbers (Misplaced line) = ⊥
HasCycleFault Pair number numbers Unfinished = ⊥
HasCycleFault Pair number numbers EventRange = ⊥
HasCycleFault Pair number numbers (BaseRefused line) = ⊥
HasCycleFault Pair number numbers (SideRefused line) = ⊥
HasCycleFault Pair number numbers (PathUnlisted line) = ⊥
HasCycleFault Pair number numbers (CaseRefused line) = ⊥

-- the case on the line with this number has the fault
abbrev pub HasCaseFault : TraceValue → ℕ → ℕ → ℕ → RefutationFault → Type 0
HasCaseFault t number u v fault = (fault ≡ CaseRefused number) × (AreTwoEvents t u v → ⊥)

-- The first line with a fault has this one, where the refutation begins on the line with this number and these pairs are in force there.
abbrev pub HasFirstFault : TraceValue → (ℕ → ℕ → Type 0) → ℕ → Refutation → RefutationFault → Type 0
HasFirstFault t Pair number (cycle numbers) fault = HasCycleFault Pair number numbers fault
HasFirstFault t Pair number (step s rest) fault =
    HasStepFault t Pair number s fault
    ⊎ (StepHoldsOver t Pair s × HasFirstFault t (WithPair Pair s.from s.to) (suc number) rest fault)
-- the first part begins on the next line, and the second after its own, which follows the first part
HasFirstFault t Pair number (split u v first second) fault =
    HasCaseFault t number u v fault
    ⊎ (AreTwoEvents t u v × HasFirstFault t (WithPair Pair u v) (suc number) first fault)
    ⊎ (AreTwoEvents t u v × HoldsUnder t (WithPair Pair u v) first
    × HasFirstFault t (WithPair Pair v u) (suc (suc number + length (lines_of first))) second fault)

-- The lines are those of a refutation whose first line with a fault has this one. Lines count from 1.
abbrev pub IsFaultOfLines : TraceValue → List RefutationLine → RefutationFault → Type 0
IsFaultOfLines t lines fault = (r : Refutation) × (lines ≡ lines_of r) × HasFirstFault t NoPair 1 r fault

-- The refusal of lines: their structure before all else, then their numbers, then the first line with a fault.
abbrev pub IsRefutationRefusal : TraceValue → List RefutationLine → RefutationFault → Type 0
IsRefutationRefusal t lines fault =
    IsStructureFault lines fault
    ⊎ (IsRefutation lines × (fault ≡ EventRange) × (AreLinesInRange t lines → ⊥))
    ⊎ (AreLinesInRange t lines × IsFaultOfLines t lines fault)

-- ---- memory

abbrev pub IsCase : RefutationLine → Type 0
IsCase (Step s) = ⊥
IsCase (Case u v) = Unit {0}
IsCase (Else u v) = ⊥
IsCase (Cycle numbers) = ⊥

-- one of the lines is a case
abbrev pub HasCase : List RefutationLine → Type 0
HasCase lines = (k : ℕ) × (line : RefutationLine) × (slice_get lines k ≡ Some line) × IsCase line

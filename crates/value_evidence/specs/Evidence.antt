-- Which evidence holds of a log's operations, and how other evidence is refused.
use Rattle.std.specs.Prelude.{◌≡◌, ◌≢◌, ◌⊎◌, ℕ, suc, ◌<◌, List, take, Some, slice_get}
use Rattle.tso_ops.specs.Values.{TraceValue}
use Rattle.tso_ops.specs.Events.{IsEvent, IsLoad, IsStore, IsSwapLoad, SameAddress, Earlier}
use Rattle.value_evidence.specs.declared.steps.ValueStep.{ValueStep}
use Rattle.value_evidence.specs.declared.steps.ValueStep.TheVariants.{Read, In, Out, Over, SwapAfter, SwapBefore}
use Rattle.value_evidence.specs.declared.steps.ValueEnd.{ValueEnd}
use Rattle.value_evidence.specs.declared.steps.ValueEnd.TheVariants.{NoSource, Cycle}
use Rattle.value_evidence.specs.declared.steps.ValueEvidence.{ValueEvidence}
use Rattle.value_evidence.specs.Candidates.{ComesBefore, SeesStore, CanRead}

-- u is r or comes before it
abbrev pub IsUpToBy : TraceValue → List ValueStep → ℕ → ℕ → Type 0
IsUpToBy t steps u r = (u ≡ r) ⊎ ComesBefore t steps u r

-- The step follows from the steps before it.
abbrev pub ValueStepHolds : TraceValue → List ValueStep → ValueStep → Type 0
-- the load can have read nothing else
ValueStepHolds t steps (Read l s) = IsLoad t l × ((r : ℕ) → CanRead t steps l r → r ≡ s)
-- A store that wasn't forwarded to the load comes before it, and `from` up to that store. The first value has nothing before it.
ValueStepHolds t steps (In from l) =
    IsEvent t from × IsLoad t l × ((r : ℕ) → CanRead t steps l r → (0 < r) × (Earlier t r l → ⊥) × IsUpToBy t steps from r)
-- the load doesn't see a store that comes after what it read
ValueStepHolds t steps (Out l to) =
    IsLoad t l × IsStore t to × SameAddress t to l × ((r : ℕ) → CanRead t steps l r → (r ≡ 0) ⊎ ComesBefore t steps r to)
-- what the load read is the last store that it sees
ValueStepHolds t steps (Over from to l) =
    IsLoad t l × SeesStore t steps l from × IsStore t to × (from ≢ to) × ((r : ℕ) → CanRead t steps l r → IsUpToBy t steps r to)
-- no store is between a swap's load and its store
ValueStepHolds t steps (SwapAfter m to) = IsSwapLoad t m × IsStore t to × (to ≢ suc m) × ComesBefore t steps m to
ValueStepHolds t steps (SwapBefore from m) = IsSwapLoad t m × IsStore t from × (from ≢ suc m) × ComesBefore t steps from (suc m)

-- the steps leave no order
abbrev pub EndHolds : TraceValue → List ValueStep → ValueEnd → Type 0
EndHolds t steps (NoSource l) = IsLoad t l × ((r : ℕ) → CanRead t steps l r → ⊥)
EndHolds t steps (Cycle u) = ComesBefore t steps u u

-- each step follows from those before it
abbrev pub AllStepsHold : TraceValue → List ValueStep → Type 0
AllStepsHold t steps = (k : ℕ) (step : ValueStep) → slice_get steps k ≡ Some step → ValueStepHolds t (take k steps) step

-- The evidence holds: each step follows from those before it, and they leave no order.
pub record EvidenceHolds (t : TraceValue) (evidence : ValueEvidence) : Type 0 where
  pub steps : AllStepsHold t evidence.steps.items
  pub ends : EndHolds t evidence.steps.items evidence.end

-- What contracts see of a unit that keeps PSO.
use Rattle.std.specs.Prelude.{◌≡◌, ℕ, ◌≤◌, List, [], ◌∷◌, ◌++◌, Bool, true, false, Some, codes, length, slice_get}
use Rattle.tso_ops.specs.declared.settings.Order.TheVariants.{Pso}
use Rattle.unit_core.specs.declared.steps.Step.{Step}
use Rattle.unit_core.specs.declared.steps.Step.TheVariants.{DrainAt}
use Rattle.unit_core.specs.Machine.{Entry, State, after, buffer_of, first_state, next}
use Rattle.unit_core.specs.Units.{Design, UnitValue}
use Rattle.unit_kinds.specs.Buffer.{StoreBufferValue, waiting_after}

-- the design of such a unit of this capacity
abbrev pub partial_design : ℕ → Design
partial_design capacity = record { kind = codes "partial"; numbers = capacity ∷ [] }

-- It is a lawful unit of PSO, for which the entries in the machine's buffers wait.
abbrev pub partial_unit : StoreBufferValue → UnitValue
partial_unit u = record { design = partial_design u.capacity; steps = u.steps; lawful = true; order = Pso; first = u.first; waiting = waiting_after u.first u.steps }

-- the machine's state after the unit's steps
abbrev pub machine_state : StoreBufferValue → State
machine_state u = after (first_state u.first) u.steps

-- Entries of the address are the next to leave the buffer: of those with the smallest number of STBARs it has the greatest address.
pub record IsNextAddress (buffer : List Entry) (a : ℕ) : Type 0 where
  pub place : ℕ
  pub entry : Entry
  pub waits : slice_get buffer place ≡ Some entry
  pub address : entry.a ≡ a
  pub fewest : (k : ℕ) (other : Entry) → slice_get buffer k ≡ Some other → entry.stbars ≤ other.stbars
  pub greatest : (k : ℕ) (other : Entry) → slice_get buffer k ≡ Some other → other.stbars ≡ entry.stbars → other.a ≤ a

-- the step drains an entry of processor p, by the address that is the next to leave its buffer
pub record IsNextDrain (p : ℕ) (s : State) (step : Step) : Type 0 where
  pub a : ℕ
  pub is : step ≡ DrainAt p a
  pub next_address : IsNextAddress (buffer_of s p) a

-- the steps are such drains, one after the other, from this state on
abbrev pub AreNextDrains : ℕ → State → List Step → Type 0
AreNextDrains p s [] = Unit {0}
AreNextDrains p s (step ∷ steps) = IsNextDrain p s step × AreNextDrains p (next s step) steps

-- The unit drained so many entries of processor p, and then took the step.
pub record DrainsAndTakes (old new : StoreBufferValue) (p count : ℕ) (step : Step) : Type 0 where
  pub drains : List Step
  pub as_many : length drains ≡ count
  pub are : AreNextDrains p (machine_state old) drains
  pub is : new ≡ record old { steps = old.steps ++ (drains ++ step ∷ []) }

-- The unit drained one entry of processor p where it answers so, and else is as it was.
abbrev pub DrainsNext : StoreBufferValue → StoreBufferValue → ℕ → Bool → Type 0
DrainsNext old new p true = (step : Step) × IsNextDrain p (machine_state old) step × (new ≡ record old { steps = old.steps ++ step ∷ [] })
DrainsNext old new p false = new ≡ old

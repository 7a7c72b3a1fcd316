-- What contracts see of a memory unit, and the law that its calls keep.
use Rattle.std.specs.Prelude.{◌≡◌, ℕ, suc, ◌<◌, ◌≤◌, List, [], ◌∷◌, ◌++◌, Bool, true, false, length, get_or, replicate}
use Rattle.tso_ops.specs.declared.settings.Order.{Order}
use Rattle.unit_core.specs.declared.steps.Step.{Step}
use Rattle.unit_core.specs.Machine.{first_state, after, buffer_of, IsRun, proc_of, is_drain}

-- Which unit was made: the name of its kind, and the numbers with which it was made, as a capacity.
pub record Design : Type 0 where
  pub kind : List ℕ
  pub numbers : List ℕ

-- Which unit it is, the steps that it has taken, whether it is lawful, its memory model, the first values of its 256 addresses, and how many entries wait
-- for each processor.
pub record UnitValue : Type 0 where
  pub design : Design
  pub steps : List Step
  pub lawful : Bool
  pub order : Order
  pub first : List ℕ
  pub waiting : List ℕ

-- a unit that has taken no step
abbrev pub new_unit : Design → Bool → Order → UnitValue
new_unit design lawful order = record { design = design; steps = []; lawful = lawful; order = order; first = replicate 256 0; waiting = replicate 16 0 }

-- how many entries wait for processor p
abbrev pub waiting_of : UnitValue → ℕ → ℕ
waiting_of u p = get_or u.waiting p 0

-- the unit is of the same design, and lawfulness, memory model and first values are as they were
pub record KeepsMachine (old new : UnitValue) : Type 0 where
  pub design : new.design ≡ old.design
  pub lawful : new.lawful ≡ old.lawful
  pub order : new.order ≡ old.order
  pub first : new.first ≡ old.first

-- all but the first values is as it was
pub record KeepsAllButFirst (old new : UnitValue) : Type 0 where
  pub design : new.design ≡ old.design
  pub steps : new.steps ≡ old.steps
  pub lawful : new.lawful ≡ old.lawful
  pub order : new.order ≡ old.order
  pub waiting : new.waiting ≡ old.waiting

-- The steps are drains of processors from `least` up to below `past`, processor by processor.
abbrev pub AreDrains : ℕ → ℕ → List Step → Type 0
AreDrains least past [] = Unit {0}
AreDrains least past (step ∷ steps) = (is_drain step ≡ true) × (least ≤ proc_of step) × (proc_of step < past) × AreDrains (proc_of step) past steps

-- the steps are drains of processor p
abbrev pub AreDrainsOf : ℕ → List Step → Type 0
AreDrainsOf p steps = AreDrains p (suc p) steps

-- The unit took the step, and otherwise only drains of the step's processor.
pub record Takes (old new : UnitValue) (step : Step) : Type 0 where
  pub before : List Step
  pub after : List Step
  pub steps : new.steps ≡ old.steps ++ (before ++ step ∷ after)
  pub drains_before : AreDrainsOf (proc_of step) before
  pub drains_after : AreDrainsOf (proc_of step) after
  pub kept : KeepsMachine old new

-- The unit took only drains, of these processors.
pub record TakesDrains (old new : UnitValue) (least past : ℕ) : Type 0 where
  pub drained : List Step
  pub steps : new.steps ≡ old.steps ++ drained
  pub drains : AreDrains least past drained
  pub kept : KeepsMachine old new

-- One entry of processor p, which has one, was drained.
pub record DrainsOne (old new : UnitValue) (p : ℕ) : Type 0 where
  pub step : Step
  pub steps : new.steps ≡ old.steps ++ step ∷ []
  pub drain : AreDrainsOf p (step ∷ [])
  pub one : suc (waiting_of new p) ≡ waiting_of old p
  pub kept : KeepsMachine old new

-- What a drain of processor p answers: true where an entry waited, and otherwise false, with nothing changed.
abbrev pub AnswersDrain : UnitValue → UnitValue → ℕ → Bool → Type 0
AnswersDrain old new p true = DrainsOne old new p
AnswersDrain old new p false = (waiting_of old p ≡ 0) × (new ≡ old)

-- Each of 256 addresses has a first value. Where the unit is lawful, its steps are a run of the machine of its memory model from its first values, and
-- as many entries wait as are in the buffers after it.
pub record IsUnit (u : UnitValue) : Type 0 where
  pub addresses : length u.first ≡ 256
  pub run : u.lawful ≡ true → IsRun u.order u.first u.steps
  pub waiting : u.lawful ≡ true → (p : ℕ) → waiting_of u p ≡ length (buffer_of (after (first_state u.first) u.steps) p)

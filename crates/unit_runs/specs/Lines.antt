-- The steps of a memory unit as the lines of a run.
use Rattle.std.specs.Prelude.{◌≡◌, ℕ, suc, ◌<◌, List, [], ◌∷◌, None, Some, slice_index}
use Rattle.tso_ops.specs.declared.settings.Order.{Order}
use Rattle.tso_ops.specs.declared.settings.Order.TheVariants.{Pso}
use Rattle.unit_core.specs.declared.steps.Step.{Step}
use Rattle.unit_core.specs.declared.steps.Step.TheVariants.{Store, Drain, DrainAt, Load, Swap, Membar, Stbar}
use Rattle.unit_core.specs.Machine.{proc_of}
use Rattle.run_steps.specs.declared.cells.Cell.TheVariants.{First}
use Rattle.run_steps.specs.declared.places.Place.{Place}
use Rattle.run_steps.specs.declared.steps.RunLine.{RunLine}
use Rattle.run_steps.specs.declared.steps.RunStep.{RunStep}
use Rattle.run_steps.specs.declared.steps.RunStep.TheVariants as run
use Rattle.run_steps.specs.Machine.{MachineState, presetting}

-- the place is the location at the address
pub record IsLocationAt (a : ℕ) (place : Place) : Type 0 where
  pub address : place.address ≡ a
  pub width : place.width ≡ 0

-- each of a unit's addresses has the location there
abbrev pub AreLocations : (ℕ → Place) → Type 0
AreLocations places = (a : ℕ) → a < 256 → IsLocationAt a (places a)

-- what a line says that says what the unit's step is
abbrev pub run_step_of : (ℕ → Place) → Step → RunStep
run_step_of places (Store p a v) = run.Store (places a) v
run_step_of places (Drain p) = run.Drain None None
run_step_of places (DrainAt p a) = run.Drain (Some (places a)) None
run_step_of places (Load p a r) = run.Load (places a) r
run_step_of places (Swap p a r v) = run.Swap (places a) r v
run_step_of places (Membar p) = run.Membar
run_step_of places (Stbar p) = run.Stbar

-- one line for each step, numbered one after the other from this number on
abbrev pub lines_of_steps : (ℕ → Place) → ℕ → List Step → List RunLine
lines_of_steps places number [] = []
lines_of_steps places number (step ∷ steps) =
    record { number = number; processor = proc_of step; step = run_step_of places step } ∷ lines_of_steps places (suc number) steps

-- The unit has the processor and the address, and its memory model has the step: PSO alone has drains that name an address.
abbrev pub IsWithin : Order → Step → Type 0
IsWithin order (Store p a v) = (p < 16) × (a < 256)
IsWithin order (Drain p) = p < 16
IsWithin order (DrainAt p a) = (p < 16) × (a < 256) × (order ≡ Pso)
IsWithin order (Load p a r) = (p < 16) × (a < 256)
IsWithin order (Swap p a r v) = (p < 16) × (a < 256)
IsWithin order (Membar p) = p < 16
IsWithin order (Stbar p) = p < 16

-- A run begins so: its memory has the words as first values, and no processor has done anything.
pub record IsStartOf (memory : List ℕ) (start : MachineState) : Type 0 where
  pub first : (a : ℕ) → a < 256 → start.memory a ≡ First (slice_index memory a)
  pub processors : start.processors ≡ []

-- the state after these are given as first values of the addresses from a on
abbrev pub preset_from : (ℕ → Place) → ℕ → List ℕ → MachineState → MachineState
preset_from places a [] s = s
preset_from places a (v ∷ values) s = preset_from places (suc a) values (presetting (places a) v s)

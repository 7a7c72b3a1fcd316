-- Which runs hold: lines of which each is a step of the machine after those before it.
use Rattle.std.specs.Prelude.{◌≡◌, ℕ, List, [], ◌∷◌, ◌++◌, map}
use Rattle.tso_ops.specs.declared.settings.Order.{Order}
use Rattle.run_steps.specs.declared.steps.RunLine.{RunLine}
use Rattle.run_steps.specs.Machine.{MachineState, admitted, line_refusals, next_state, state_after_line}
use Rattle.run_steps.specs.Reads.{RefusalValue}
use Rattle.run_steps.specs.Steps.{MayStep}

-- The lines are steps of the machine from this state on, one after the other.
abbrev pub HoldsFrom : Order → MachineState → List RunLine → Type 0
HoldsFrom model s [] = Unit {0}
HoldsFrom model s (line ∷ lines) =
    let from = admitted line.processor s in MayStep model line.processor line.step from × HoldsFrom model (next_state line.number line.processor line.step from) lines

-- the state after these lines, refused or not
abbrev pub state_after : MachineState → List RunLine → MachineState
state_after s [] = s
state_after s (line ∷ lines) = state_after (state_after_line line s) lines

-- why lines are refused, each refusal with the number of its line, in order
abbrev pub refusals_from : Order → MachineState → List RunLine → List (ℕ × RefusalValue)
refusals_from model s [] = []
refusals_from model s (line ∷ lines) = map (λ refusal. (line.number, refusal)) (line_refusals model line s) ++ refusals_from model (state_after_line line s) lines

-- A line is the first that is no step: the lines before it are steps from this state on, and it is refused after them.
pub record IsFirstRefused (model : Order) (s : MachineState) (lines : List RunLine) (line : RunLine) : Type 0 where
  pub before : List RunLine
  pub after : List RunLine
  pub whole : lines ≡ before ++ line ∷ after
  pub holds : HoldsFrom model s before
  pub refused : MayStep model line.processor line.step (admitted line.processor (state_after s before)) → ⊥

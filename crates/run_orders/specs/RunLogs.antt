-- Which logs have the lines of a run, and how runs start.
use Rattle.std.specs.Prelude.{◌≡◌, ℕ, ◌<◌, List, [], ◌∷◌, map, filter, None, Some}
use Rattle.std.specs.List.{AllByRecursion}
use Rattle.tso_ops.specs.Settings.{first_value}
use Rattle.run_steps.specs.declared.cells.Cell.TheVariants.{First}
use Rattle.run_steps.specs.declared.places.Place.{Place}
use Rattle.run_steps.specs.declared.steps.RunLine.{RunLine}
use Rattle.run_steps.specs.declared.steps.RunStep.{RunStep}
use Rattle.run_steps.specs.declared.steps.RunStep.TheVariants.{Load, Store, Drain, Write, Swap, Reserve, StoreReserved, Membar, Stbar, Unknown, Last}
use Rattle.run_steps.specs.Machine.{MachineState}
use Rattle.run_steps.specs.Runs.{HoldsFrom}
use Rattle.run_lines.specs.Lines.{numbers_of_step, step_word}
use Rattle.log_text.specs.declared.lines.LogLine.{LogLine}
use Rattle.log_text.specs.LogLines.{step_told}
use Rattle.log_text.specs.LogTexts.{first_values, is_step, order_of}

-- what a line of a run says to a log
abbrev pub logged_line : RunLine → LogLine
logged_line line = step_told line.processor (step_word line.step) (numbers_of_step line.step)

-- the place is a location: it has no width
abbrev pub IsLocation : Place → Type 0
IsLocation place = place.width ≡ 0

-- so is the place that the step names, if it names one
abbrev pub IsAtLocation : RunStep → Type 0
IsAtLocation (Load place v) = IsLocation place
IsAtLocation (Store place v) = IsLocation place
IsAtLocation (Drain None v) = Unit {0}
IsAtLocation (Drain (Some place) v) = IsLocation place
IsAtLocation (Write place v) = IsLocation place
IsAtLocation (Swap place r v) = IsLocation place
IsAtLocation (Reserve place v) = IsLocation place
IsAtLocation (StoreReserved place v) = IsLocation place
IsAtLocation Membar = Unit {0}
IsAtLocation Stbar = Unit {0}
IsAtLocation (Unknown place) = IsLocation place
IsAtLocation (Last place v) = IsLocation place

-- the numbers of the lines ascend, and are above this one
abbrev pub AreNumberedAbove : ℕ → List RunLine → Type 0
AreNumberedAbove number [] = Unit {0}
AreNumberedAbove number (line ∷ lines) = (number < line.number) × AreNumberedAbove line.number lines

-- A log has these lines, and its steps are a run that holds: the run is one of locations, each line is a step of the machine of the log's memory model,
-- and the machine has done nothing before it but to take the log's first values.
pub record IsHeldRun (log_lines : List LogLine) (s : MachineState) (lines : List RunLine) : Type 0 where
  pub steps : filter is_step log_lines ≡ map logged_line lines
  pub locations : AllByRecursion (λ line. IsAtLocation line.step) lines
  pub numbers : AreNumberedAbove 0 lines
  pub memory : (a : ℕ) → s.memory a ≡ First (first_value (first_values log_lines) a)
  pub processors : s.processors ≡ []
  pub holds : HoldsFrom (order_of log_lines) s lines

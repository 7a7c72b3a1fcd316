-- The states that runs of a program go through, and how many there are.
use Rattle.std.specs.Prelude.{◌≡◌, ℕ, ◌<◌, ◌≤◌, List, ◌∷◌, ◌++◌, All, length}
use Rattle.tso_ops.specs.declared.ops.Outcome.{Outcome}
use Rattle.tso_ops.specs.Values.{ProgramValue, list_count}
use Rattle.unit_core.specs.declared.steps.Step.{Step}
use Rattle.unit_core.specs.Machine.{HasProcessors, IsFirstMemory, IsRun, State, after, first_state, lists_from}
use Rattle.unit_core.specs.Replays.{AreFirstOpsOf}

-- the state of the machine, and what each processor was answered so far
pub record RunState : Type 0 where
  pub machine : State
  pub answered : List (List Outcome)

-- Some run of the machine of the program's memory model, whose steps without drains are first operations of the program's processors, reaches this state.
pub record IsReached (program : ProgramValue) (state : RunState) : Type 0 where
  pub memory : List ℕ
  pub first : IsFirstMemory program.setting.first memory
  pub steps : List Step
  pub run : IsRun program.setting.order memory steps
  pub processors : HasProcessors (list_count program) steps
  pub ops : AreFirstOpsOf program steps
  pub machine : state.machine ≡ after (first_state memory) steps
  pub answered : state.answered ≡ lists_from 0 (list_count program) steps

-- none of the states stands there twice
abbrev pub AreDifferent : List RunState → Type 0
AreDifferent states = (before between after : List RunState) (state : RunState) → states ≡ before ++ state ∷ (between ++ state ∷ after) → ⊥

-- runs of the program reach so many different states
pub record AreReached (program : ProgramValue) (states : List RunState) : Type 0 where
  pub each : All (IsReached program) states
  pub different : AreDifferent states

-- runs of the program reach more states than this
abbrev pub ReachesMoreStates : ProgramValue → ℕ → Type 0
ReachesMoreStates program limit = (states : List RunState) × AreReached program states × (limit < length states)

-- runs of the program reach no more states than this
abbrev pub ReachesAtMost : ProgramValue → ℕ → Type 0
ReachesAtMost program limit = (states : List RunState) → AreReached program states → length states ≤ limit

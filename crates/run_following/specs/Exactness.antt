-- Which lines of a run are told of: those that the machine refuses from a start with the first values of the run.
use Rattle.std.specs.Prelude.{◌≡◌, ℕ, List, map}
use Rattle.std.specs.List.{fold}
use Rattle.run_steps.specs.declared.places.Place.{Place}
use Rattle.run_steps.specs.Machine.{MachineState, beginning_state, presetting}
use Rattle.run_steps.specs.Reads.{RefusalValue}
use Rattle.run_steps.specs.Runs.{refusals_from, state_after}
use Rattle.run_following.specs.Accounts.{Account}
use Rattle.run_following.specs.Facts.{RefusalTold, kind_of}
use Rattle.run_following.specs.declared.facts.RefusalKind.{RefusalKind}

-- the number of the line that is told of, and why it is no step
abbrev pub told_kind : RefusalTold → ℕ × RefusalKind
told_kind t = (t.line.0, t.kind)

-- the same of a refusal of the machine, with the number of its line
abbrev pub refused_kind : ℕ × RefusalValue → ℕ × RefusalKind
refused_kind r = (r.0, kind_of r.1)

-- one more first value
abbrev pub with_preset : MachineState → Place × ℕ → MachineState
with_preset s first = presetting first.0 first.1 s

-- The steps of the account are those of a run from a start with some first values; its state is the state after them, and it is told just of the lines that the
-- machine refuses, for these reasons.
pub record IsRunFromStart (account : Account) : Type 0 where
  pub firsts : List (Place × ℕ)
  pub start : MachineState
  pub is : start ≡ fold with_preset beginning_state firsts
  pub state : account.state ≡ state_after start account.steps
  pub refused : map told_kind account.refusals ≡ map refused_kind (refusals_from account.model start account.steps)

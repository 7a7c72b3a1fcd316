-- What is found of a run, and what that answers.
use Rattle.std.specs.Prelude.{◌≡◌, ℕ, nat_lt, List, length, map, take, if◌then◌else◌}
use Rattle.std.specs.List.{sum_by}
use Rattle.run_steps.specs.Machine.{ProcessorState}
use Rattle.run_following.specs.Accounts.{Account}
use Rattle.run_following.specs.Facts.{told_value}
use Rattle.run_following.specs.declared.found.RunFound.{RunFound}
use Rattle.trace_reports.specs.declared.answers.Answer.{Answer}
use Rattle.trace_reports.specs.declared.answers.Answer.TheVariants.{Clear, Undecided, Violation}

-- how many stores wait
abbrev pub waiting_in : List ProcessorState → ℕ
waiting_in processors = sum_by (λ x. length x.waits) processors

-- This is found of the lines: how many there are of each kind, how many stores wait after them, and how many refusals there are, the first of which are told.
pub record IsFoundIn (most : ℕ) (account : Account) (found : RunFound) : Type 0 where
  pub counts : found.counts ≡ account.counts
  pub waiting : found.waiting ≡ waiting_in account.state.processors
  pub compared : found.is_compared ≡ account.compared
  pub refusals : found.refusals ≡ length account.refusals
  pub told_first : map told_value found.told.items ≡ take most account.refusals

-- a violation where a line is no step, and nothing where no value was compared
abbrev pub run_answer : RunFound → Answer
run_answer found = if nat_lt 0 found.refusals then Violation else if found.is_compared then Clear else Undecided

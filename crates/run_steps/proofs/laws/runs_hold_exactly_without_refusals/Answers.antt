use Rattle.run_steps.proofs.RunFacts.{first_refused, holds_exactly}
use Rattle.run_steps.proofs.laws.runs_hold_exactly_without_refusals.Goals as goal

pub returns-clause-exactly : goal.returns-clause-exactly
returns-clause-exactly c = holds_exactly

pub returns-clause-first : goal.returns-clause-first
returns-clause-first c = first_refused

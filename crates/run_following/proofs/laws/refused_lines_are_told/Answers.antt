use Rattle.run_following.proofs.ExactFacts.{first_told, run_of_lines, told_exactly}
use Rattle.run_following.proofs.laws.refused_lines_are_told.Goals as goal

pub returns-clause-told : goal.returns-clause-told
returns-clause-told c = run_of_lines

pub returns-clause-holds : goal.returns-clause-holds
returns-clause-holds c = told_exactly

pub returns-clause-first : goal.returns-clause-first
returns-clause-first c = first_told

use Rattle.embedding.proofs.RunOrderFacts.{none_derived, none_unwritten}
use Rattle.embedding.proofs.laws.complete_runs_are_never_violations.Goals as goal

pub returns-clause-written : goal.returns-clause-written
returns-clause-written c setting count steps l run = none_unwritten setting count steps run l

pub returns-clause-derived : goal.returns-clause-derived
returns-clause-derived c = none_derived

use Rattle.refutation_check.proofs.RefusalExists.{holds_or_refused}
use Rattle.refutation_check.proofs.RefusalFacts.{one_refusal, not_refused}
use Rattle.refutation_check.proofs.laws.refusals.Goals as goal

pub returns-clause-some : goal.returns-clause-some
returns-clause-some c = holds_or_refused

pub returns-clause-one : goal.returns-clause-one
returns-clause-one c = one_refusal

pub returns-clause-none : goal.returns-clause-none
returns-clause-none c = not_refused

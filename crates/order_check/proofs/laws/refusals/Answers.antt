use Rattle.order_check.proofs.RefusalExists.{order_or_refused}
use Rattle.order_check.proofs.RefusalFacts.{not_refused, one_refusal}
use Rattle.order_check.proofs.laws.refusals.Goals as goal

pub returns-clause-some : goal.returns-clause-some
returns-clause-some c = order_or_refused

pub returns-clause-one : goal.returns-clause-one
returns-clause-one c = one_refusal

pub returns-clause-none : goal.returns-clause-none
returns-clause-none c = not_refused

use Rattle.value_evidence.proofs.RefutationFacts.{evidence_holds_as}
use Rattle.value_evidence.proofs.laws.evidence_is_refutation.Goals as goal

pub returns-clause-holds : goal.returns-clause-holds
returns-clause-holds c = λ t e holds. (evidence_holds_as t e).0 holds

pub returns-clause-only : goal.returns-clause-only
returns-clause-only c = λ t e holds. (evidence_holds_as t e).1 holds

use Rattle.trace_decisions.proofs.DecisionFacts.{says}
use Rattle.trace_decisions.proofs.laws.evidence.Goals as goal

pub returns : goal.returns
returns c = λ t e trace holds. says t trace e holds

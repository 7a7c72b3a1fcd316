use Rattle.decision_explanation.proofs.PartFacts.{else_after, extended}
use Rattle.decision_explanation.proofs.laws.second_parts_forget_first_parts.Goals as goal

pub returns : goal.returns
returns c s u v first = else_after s _ u v (extended _ first)

use Rattle.decision_explanation.specs.Cases.{case_text}
use Rattle.decision_explanation.proofs.cases.push_case.Goals as goal

pub returns : goal.returns
unfolding case_text
returns c = rw (c.next-number.ensures, c.name-first.ensures, c.name-second.ensures) at c.write.ensures.bytes

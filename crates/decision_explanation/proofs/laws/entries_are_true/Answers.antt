use Rattle.decision_explanation.proofs.ClaimFacts.{entry_says}
use Rattle.decision_explanation.proofs.laws.entries_are_true.Goals as goal

pub returns : goal.returns
returns c t order trace model l load = entry_says t order trace l load (model.value l load)

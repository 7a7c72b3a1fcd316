use Rattle.refutation_check.proofs.RefusalFacts.{one_refutation}
use Rattle.refutation_check.proofs.laws.refutation_is_unique.Goals as goal

pub returns : goal.returns
returns c = one_refutation

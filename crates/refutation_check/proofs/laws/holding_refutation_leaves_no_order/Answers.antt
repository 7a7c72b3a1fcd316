use Rattle.tso_ops.proofs.NumberFacts.{own_values}
use Rattle.refutation_check.proofs.TreeFacts.{not_consistent}
use Rattle.refutation_check.proofs.laws.holding_refutation_leaves_no_order.Goals as goal

pub returns : goal.returns
returns c = λ t lines trace holds consistent. not_consistent t (own_values t trace) lines holds consistent

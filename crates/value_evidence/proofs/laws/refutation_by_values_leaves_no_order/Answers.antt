use Rattle.value_evidence.proofs.RefutationSoundness.{no_order_beside}
use Rattle.value_evidence.proofs.laws.refutation_by_values_leaves_no_order.Goals as goal

pub returns : goal.returns
returns c = λ t lines holds consistent. no_order_beside t lines holds consistent

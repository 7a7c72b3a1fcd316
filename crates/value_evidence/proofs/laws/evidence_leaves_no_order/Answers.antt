use Rattle.value_evidence.proofs.Soundness.{no_order}
use Rattle.value_evidence.proofs.laws.evidence_leaves_no_order.Goals as goal

pub returns : goal.returns
returns c = λ t evidence holds consistent. no_order t evidence holds consistent

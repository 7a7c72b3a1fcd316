use Rattle.tso_ops.proofs.NumberFacts.{own_values}
use Rattle.tso_model.proofs.CertificateHolds.{not_consistent}
use Rattle.tso_model.proofs.certificates.holding_certificate_leaves_no_order.Goals as goal

pub returns : goal.returns
returns c t certificate trace holds consistent = not_consistent t (own_values t trace) certificate holds consistent

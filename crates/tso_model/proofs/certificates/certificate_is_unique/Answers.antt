use Rattle.tso_ops.proofs.NumberFacts.{own_values}
use Rattle.tso_model.proofs.CertificateUnique.{certificate_unique}
use Rattle.tso_model.proofs.certificates.certificate_is_unique.Goals as goal

pub returns : goal.returns
returns c t certificate other trace of_trace again = certificate_unique t (own_values t trace) certificate other of_trace again

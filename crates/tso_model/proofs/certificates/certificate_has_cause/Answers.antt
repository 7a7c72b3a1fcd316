use Rattle.tso_model.proofs.CertificateCause.{certificate_cause}
use Rattle.tso_model.proofs.certificates.certificate_has_cause.Goals as goal

pub returns : goal.returns
returns c = certificate_cause

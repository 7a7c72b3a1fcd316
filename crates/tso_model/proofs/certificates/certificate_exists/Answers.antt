use Rattle.tso_model.proofs.CertificateExists.{certificate_exists as exists}
use Rattle.tso_model.proofs.certificates.certificate_exists.Goals as goal

pub returns : goal.returns
returns c = exists

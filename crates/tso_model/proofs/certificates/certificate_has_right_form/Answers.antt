use Rattle.tso_model.proofs.CertificateCause.{certificate_form}
use Rattle.tso_model.proofs.certificates.certificate_has_right_form.Goals as goal

pub returns : goal.returns
returns c = certificate_form

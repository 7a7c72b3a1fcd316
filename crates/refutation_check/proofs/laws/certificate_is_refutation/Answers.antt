use Rattle.refutation_check.proofs.CertificateFacts.{certificate_holds_as}
use Rattle.refutation_check.proofs.laws.certificate_is_refutation.Goals as goal

pub returns : goal.returns
returns c = certificate_holds_as

use Rattle.decision_explanation.proofs.CertificateFacts.{certificate_found, certificate_only}
use Rattle.decision_explanation.proofs.laws.certificates_are_found.Goals as goal

pub returns : goal.returns
returns c e certificate = (certificate_only e certificate, certificate_found e certificate)

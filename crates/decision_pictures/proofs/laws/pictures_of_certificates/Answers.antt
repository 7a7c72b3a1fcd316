use Rattle.decision_pictures.proofs.CertificateFacts.{certificate_picture, other_picture}
use Rattle.decision_pictures.proofs.laws.pictures_of_certificates.Goals as goal

pub returns : goal.returns
returns c = record { certificates = certificate_picture; others = other_picture }

use Rattle.tso_evidence.proofs.CertificateFacts.{same_text, spelled_in, spelled_out}
use Rattle.tso_evidence.proofs.laws.certificates_are_evidence.Goals as goal

pub returns : goal.returns
returns c = record {
  same_text = same_text;
  same_spelling = λ text certificate. (spelled_in text certificate, spelled_out text certificate);
}

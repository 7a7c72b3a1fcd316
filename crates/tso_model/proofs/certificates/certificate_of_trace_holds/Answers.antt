use Rattle.tso_model.proofs.CertificateHolds.{certificate_holds}
use Rattle.tso_model.proofs.certificates.certificate_of_trace_holds.Goals as goal

pub returns : goal.returns
returns c t certificate of_trace = certificate_holds t certificate of_trace

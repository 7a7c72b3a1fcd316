-- What is drawn of evidence that is a certificate, and of other lines.
use Rattle.std.proofs.Common.{◌≡◌, ◌≢◌, refl, ap, List, [], Option, None, Some}
use Rattle.tso_ops.specs.Values.{TraceValue}
use Rattle.tso_cert.specs.declared.steps.Certificate.{Certificate}
use Rattle.tso_cert.specs.declared.steps.Certificate.TheVariants.{Unwritten as UnwrittenLoad, Cycle as CycleOf}
use Rattle.tso_evidence.specs.declared.refutations.RefutationLine.{RefutationLine}
use Rattle.tso_evidence.specs.declared.evidence.Evidence.TheVariants.{Refutation}
use Rattle.tso_evidence.specs.Certificates.{evidence_of}
use Rattle.decision_explanation.specs.Certificates.{certificate_of}
use Rattle.decision_explanation.proofs.CertificateFacts.{certificate_found, certificate_only}
use Rattle.trace_pictures.specs.declared.captions.Caption.TheVariants.{Refuted}
use Rattle.trace_pictures.specs.Pictures.{numbered_picture, picture_text}
use Rattle.decision_pictures.specs.Pictures.{evidence_picture, picture_by}

pub certificate_picture : (t : TraceValue) (c : Certificate) → evidence_picture t (evidence_of c) ≡ picture_text t (Some c)
certificate_picture t (UnwrittenLoad n) = refl
certificate_picture t (CycleOf steps cycle) = ap (picture_by t) (certificate_found (evidence_of (CycleOf steps cycle)) (CycleOf steps cycle) refl)

-- what is drawn of lines that give this, and are no certificate
drawn_of : (t : TraceValue) (lines : List RefutationLine) (found : Option Certificate) → certificate_of [] lines ≡ found → ((c : Certificate) → Refutation lines ≢ evidence_of c) →
    picture_by t found ≡ numbered_picture t [] Refuted
drawn_of t lines None is none = refl
drawn_of t lines (Some c) is none = absurd (none c (certificate_only (Refutation lines) c is))

pub other_picture : (t : TraceValue) (lines : List RefutationLine) → ((c : Certificate) → Refutation lines ≢ evidence_of c) → evidence_picture t (Refutation lines) ≡ numbered_picture t [] Refuted
other_picture t lines none = drawn_of t lines (certificate_of [] lines) refl none

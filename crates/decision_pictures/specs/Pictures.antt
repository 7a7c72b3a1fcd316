-- The picture of a trace by evidence on whether it has an order that meets the axioms of its memory model.
use Rattle.std.specs.Prelude.{ℕ, List, [], Option, None, Some}
use Rattle.tso_ops.specs.Values.{TraceValue}
use Rattle.tso_cert.specs.declared.steps.Certificate.{Certificate}
use Rattle.tso_cert.specs.declared.steps.Certificate.TheVariants.{Unwritten as UnwrittenLoad}
use Rattle.tso_evidence.specs.declared.refutations.RefutationLine.{RefutationLine}
use Rattle.tso_evidence.specs.declared.evidence.Evidence.{Evidence}
use Rattle.tso_evidence.specs.declared.evidence.Evidence.TheVariants.{Unwritten, Order, Refutation}
use Rattle.decision_explanation.specs.Certificates.{certificate_of}
use Rattle.trace_pictures.specs.declared.captions.Caption.TheVariants.{Consistent, Refuted, Undecided}
use Rattle.trace_pictures.specs.Pictures.{numbered_picture, picture_text}

-- by a certificate, or by other lines of a refutation, of which nothing is shown: the caption names the command that prints them
abbrev pub picture_by : TraceValue → Option Certificate → List ℕ
picture_by t None = numbered_picture t [] Refuted
picture_by t (Some c) = picture_text t (Some c)

abbrev pub refutation_picture : TraceValue → List RefutationLine → List ℕ
refutation_picture t lines = picture_by t (certificate_of [] lines)

-- an order gives each event that stands in it the number of its place
abbrev pub evidence_picture : TraceValue → Evidence → List ℕ
evidence_picture t (Unwritten n) = picture_text t (Some (UnwrittenLoad n))
evidence_picture t (Order order) = numbered_picture t order Consistent
evidence_picture t (Refutation lines) = refutation_picture t lines

-- the picture of a trace of which neither an order nor a refutation was found
abbrev pub undecided_picture : TraceValue → List ℕ
undecided_picture t = numbered_picture t [] Undecided

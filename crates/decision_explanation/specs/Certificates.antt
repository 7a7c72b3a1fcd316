-- Evidence that is a certificate.
use Rattle.std.specs.Prelude.{List, [], ◌∷◌, ◌++◌, Option, None, Some}
use Rattle.tso_cert.specs.declared.steps.CertStep.{CertStep}
use Rattle.tso_cert.specs.declared.steps.Certificate.{Certificate}
use Rattle.tso_cert.specs.declared.steps.Certificate.TheVariants.{Unwritten as UnwrittenLoad, Cycle as CycleOf}
use Rattle.tso_evidence.specs.declared.refutations.RefutationLine.{RefutationLine}
use Rattle.tso_evidence.specs.declared.refutations.RefutationLine.TheVariants.{Step, Case, Else, Cycle}
use Rattle.tso_evidence.specs.declared.evidence.Evidence.{Evidence}
use Rattle.tso_evidence.specs.declared.evidence.Evidence.TheVariants.{Unwritten, Order, Refutation}

-- the certificate of these steps and of those lines, where they are steps and then one cycle
abbrev pub certificate_of : List CertStep → List RefutationLine → Option Certificate
certificate_of steps [] = None
certificate_of steps (Step s ∷ lines) = certificate_of (steps ++ s ∷ []) lines
certificate_of steps (Case u v ∷ lines) = None
certificate_of steps (Else u v ∷ lines) = None
certificate_of steps (Cycle cycle ∷ []) = Some (CycleOf steps cycle)
certificate_of steps (Cycle cycle ∷ (line ∷ lines)) = None

-- the certificate that the evidence is, if it is one: an unwritten load, or a refutation without cases
abbrev pub certificate_of_evidence : Evidence → Option Certificate
certificate_of_evidence (Unwritten n) = Some (UnwrittenLoad n)
certificate_of_evidence (Order order) = None
certificate_of_evidence (Refutation lines) = certificate_of [] lines

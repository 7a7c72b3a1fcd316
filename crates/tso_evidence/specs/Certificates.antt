-- Certificates as evidence.
use Rattle.std.specs.Prelude.{ℕ, List, [], ◌∷◌, ◌++◌, map}
use Rattle.tso_cert.specs.declared.steps.CertStep.{CertStep}
use Rattle.tso_cert.specs.declared.steps.Certificate.{Certificate}
use Rattle.tso_cert.specs.declared.steps.Certificate.TheVariants.{Unwritten as UnwrittenLoad, Cycle as CycleOf}
use Rattle.tso_evidence.specs.declared.refutations.RefutationLine.{RefutationLine}
use Rattle.tso_evidence.specs.declared.refutations.RefutationLine.TheVariants.{Step, Cycle}
use Rattle.tso_evidence.specs.declared.evidence.Evidence.{Evidence}
use Rattle.tso_evidence.specs.declared.evidence.Evidence.TheVariants.{Unwritten, Refutation}

-- the lines of a certificate of these steps and this cycle
abbrev pub certificate_lines : List CertStep → List ℕ → List RefutationLine
certificate_lines steps cycle = map Step steps ++ Cycle cycle ∷ []

-- the evidence that a certificate is: an unwritten load, or a refutation without cases
abbrev pub evidence_of : Certificate → Evidence
evidence_of (UnwrittenLoad n) = Unwritten n
evidence_of (CycleOf steps cycle) = Refutation (certificate_lines steps cycle)

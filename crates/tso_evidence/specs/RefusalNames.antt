-- The names of the refusals of the texts of evidence.
use Rattle.std.specs.Prelude.{ℕ, List, codes}
use Rattle.tso_evidence.specs.declared.faults.EvidenceFault.{EvidenceFault}
use Rattle.tso_evidence.specs.declared.faults.EvidenceFault.TheVariants.{BadLine, BadNumber, BadRule, AfterEnd, OutOfMemory}

-- the name of a refusal of a text of evidence
abbrev pub evidence_refusal_name : EvidenceFault → List ℕ
evidence_refusal_name BadLine = codes "BadLine"
evidence_refusal_name BadNumber = codes "BadNumber"
evidence_refusal_name BadRule = codes "BadRule"
evidence_refusal_name AfterEnd = codes "AfterEnd"
evidence_refusal_name OutOfMemory = codes "OutOfMemory"

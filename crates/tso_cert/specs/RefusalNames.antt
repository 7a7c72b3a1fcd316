-- The names of the refusals of certificates' texts.
use Rattle.std.specs.Prelude.{ℕ, List, codes}
use Rattle.tso_cert.specs.declared.faults.CertificateRefusal.{CertificateRefusal}
use Rattle.tso_cert.specs.declared.faults.CertificateRefusal.TheVariants.{BadLine, BadNumber, BadRule, NoCycle, AfterCycle, OutOfMemory}

-- the name of a refusal of a certificate's text
abbrev pub certificate_refusal_name : CertificateRefusal → List ℕ
certificate_refusal_name BadLine = codes "BadLine"
certificate_refusal_name BadNumber = codes "BadNumber"
certificate_refusal_name BadRule = codes "BadRule"
certificate_refusal_name NoCycle = codes "NoCycle"
certificate_refusal_name AfterCycle = codes "AfterCycle"
certificate_refusal_name OutOfMemory = codes "OutOfMemory"

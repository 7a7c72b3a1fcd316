-- How the text of evidence is read, line by line.
use Rattle.std.specs.Prelude.{suc, length, Result, Ok, Err, if◌then◌else◌}
use Rattle.line_text.specs.Lines.{is_empty}
use Rattle.line_text.specs.Readings.{Said, element, whole, Reading}
use Rattle.tso_cert.specs.declared.faults.CertificateRefusal.{CertificateRefusal}
use Rattle.tso_evidence.specs.declared.refutations.RefutationLine.{RefutationLine}
use Rattle.tso_evidence.specs.declared.evidence.Evidence.{Evidence}
use Rattle.tso_evidence.specs.declared.evidence.Evidence.TheVariants.{Unwritten as UnwrittenLoad, Order as OrderOf, Refutation}
use Rattle.tso_evidence.specs.declared.lines.Line.{Line}
use Rattle.tso_evidence.specs.declared.lines.Line.TheVariants.{Refuting, Unwritten, Order}
use Rattle.tso_evidence.specs.declared.faults.EvidenceFault.{EvidenceFault}
use Rattle.tso_evidence.specs.declared.faults.EvidenceFault.TheVariants.{BadLine, AfterEnd}
use Rattle.tso_evidence.specs.Printed.{number_past}
use Rattle.tso_evidence.specs.Internal.LineValues.{line_fault, evidence_line_said}

-- what a line says, or its fault, as evidence
abbrev pub said_of : Result Line CertificateRefusal → Result (Said RefutationLine Evidence) EvidenceFault
said_of (Err why) = Err (line_fault why)
said_of (Ok (Refuting l)) = Ok (element l)
said_of (Ok (Unwritten n)) = Ok (whole (UnwrittenLoad n))
said_of (Ok (Order order)) = Ok (whole (OrderOf order))

abbrev pub evidence_reading : Reading RefutationLine Evidence EvidenceFault
evidence_reading = record {
  said = λ lines tokens. said_of (evidence_line_said (suc (length lines)) (number_past 1 lines) tokens);
  unended = λ lines part. if is_empty part then Ok (Refutation lines) else Err BadLine;
  after_end = AfterEnd;
}

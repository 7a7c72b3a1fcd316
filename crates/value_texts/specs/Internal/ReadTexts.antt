-- How the text of evidence is read, line by line.
use Rattle.std.specs.Prelude.{suc, length, Result, Ok, Err, List, if◌then◌else◌}
use Rattle.line_text.specs.Lines.{is_empty}
use Rattle.line_text.specs.Readings.{Said, element, whole, Reading}
use Rattle.value_evidence.specs.declared.refutations.ValueRefutationLine.{ValueRefutationLine}
use Rattle.value_evidence.specs.declared.refutations.LogEvidence.{LogEvidence}
use Rattle.value_texts.specs.declared.lines.Line.{Line}
use Rattle.value_texts.specs.declared.lines.Line.TheVariants.{Refuting, Order}
use Rattle.value_texts.specs.declared.names.EventName.{EventName}
use Rattle.value_texts.specs.declared.refusals.ValueTextFault.{ValueTextFault}
use Rattle.value_texts.specs.declared.refusals.ValueTextRefusal.{ValueTextRefusal}
use Rattle.value_texts.specs.declared.refusals.ValueTextRefusal.TheVariants.{BadLine, AfterEnd}
use Rattle.value_texts.specs.Printed.{LogEvidenceValue, order_of, refutation_of, log_evidence_value}
use Rattle.value_texts.specs.Internal.LineValues.{evidence_line_said}

-- a line, as contracts see it
abbrev pub said_of : Line → Said ValueRefutationLine LogEvidenceValue
said_of (Refuting l) = element l
said_of (Order numbers) = whole (order_of numbers.items)

abbrev pub evidence_reading : List EventName → Reading ValueRefutationLine LogEvidenceValue ValueTextRefusal
evidence_reading names = record {
  said = λ lines tokens. evidence_line_said names (suc (length lines)) tokens;
  unended = λ lines part. if is_empty part then Ok (refutation_of lines) else Err BadLine;
  after_end = AfterEnd;
}

-- an answer, as contracts see it
abbrev pub evidence_answer : Result LogEvidence ValueTextFault → Result LogEvidenceValue ValueTextFault
evidence_answer (Ok e) = Ok (log_evidence_value e)
evidence_answer (Err fault) = Err fault

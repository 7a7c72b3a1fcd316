-- How the text of a certificate is read, line by line.
use Rattle.std.specs.Prelude.{ℕ, suc, List, length, Ok, Err, if◌then◌else◌}
use Rattle.line_text.specs.Lines.{is_empty}
use Rattle.line_text.specs.Readings.{Said, element, whole, Reading}
use Rattle.line_text.specs.Results.{◌>>=◌}
use Rattle.tso_cert.specs.declared.steps.CertStep.{CertStep}
use Rattle.tso_cert.specs.declared.steps.Certificate.{Certificate}
use Rattle.tso_cert.specs.declared.steps.Certificate.TheVariants.{Unwritten as UnwrittenLoad, Cycle as CycleOf}
use Rattle.tso_cert.specs.declared.lines.Line.{Line}
use Rattle.tso_cert.specs.declared.lines.Line.TheVariants.{Step, Cycle, Unwritten}
use Rattle.tso_cert.specs.declared.faults.CertificateRefusal.{CertificateRefusal}
use Rattle.tso_cert.specs.declared.faults.CertificateRefusal.TheVariants.{BadLine, NoCycle, AfterCycle}
use Rattle.tso_cert.specs.Internal.LineValues.{cert_line_said}

-- what stands after the last line end, where no last line came
abbrev pub unended_cert_fault : List ℕ → CertificateRefusal
unended_cert_fault part = if is_empty part then NoCycle else BadLine

-- what a line says after those of these steps
abbrev pub said_after : List CertStep → Line → Said CertStep Certificate
said_after steps (Step s) = element s
said_after steps (Cycle cycle) = whole (CycleOf steps cycle)
said_after steps (Unwritten n) = whole (UnwrittenLoad n)

abbrev pub cert_reading : Reading CertStep Certificate CertificateRefusal
cert_reading = record {
  said = λ steps tokens. cert_line_said (suc (length steps)) tokens >>= λ l. Ok (said_after steps l);
  unended = λ steps part. Err (unended_cert_fault part);
  after_end = AfterCycle;
}

use Rattle.std.proofs.Common.{◌≡◌, ◌+◌, ◌≤◌, suc, length, []}
use Rattle.line_text.specs.Lines.{parts_of}
use Rattle.line_text.specs.Readings.{read_parts}
use Rattle.tso_cert.specs.Internal.ReadTexts.{cert_reading}
use Rattle.tso_cert.proofs.readers.read.Given as goal

abbrev pub invariant-lines : goal.invariant-lines
invariant-lines l = record {
  left : read_parts cert_reading [] (parts_of l.text) ≡ read_parts cert_reading l.steps.items (parts_of l.rest);
  count : l.number ≡ suc (length l.steps.items);
  room : l.number + length l.rest ≤ length l.text + 1;
}

abbrev pub decreases-lines : goal.decreases-lines
decreases-lines l = length l.rest

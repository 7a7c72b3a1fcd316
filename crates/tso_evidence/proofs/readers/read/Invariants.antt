use Rattle.std.proofs.Common.{◌≡◌, ◌+◌, ◌≤◌, suc, length, []}
use Rattle.line_text.specs.Lines.{parts_of}
use Rattle.line_text.specs.Readings.{read_parts}
use Rattle.tso_evidence.specs.Printed.{number_past}
use Rattle.tso_evidence.specs.Internal.ReadTexts.{evidence_reading}
use Rattle.tso_evidence.proofs.readers.read.Given as goal

abbrev pub invariant-lines : goal.invariant-lines
invariant-lines l = record {
  left : read_parts evidence_reading [] (parts_of l.text) ≡ read_parts evidence_reading l.lines.items (parts_of l.rest);
  count : l.line ≡ suc (length l.lines.items);
  next : l.number ≡ number_past 1 l.lines.items;
  low : l.number ≤ l.line;
  room : l.line + length l.rest ≤ length l.text + 1;
}

abbrev pub decreases-lines : goal.decreases-lines
decreases-lines l = length l.rest

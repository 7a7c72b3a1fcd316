use Rattle.std.proofs.Common.{◌≡◌, ◌+◌, ◌≤◌, suc, length, []}
use Rattle.line_text.specs.Lines.{parts_of}
use Rattle.line_text.specs.Readings.{read_parts}
use Rattle.value_texts.specs.Internal.ReadTexts.{evidence_reading}
use Rattle.value_texts.proofs.readers.read.Given as goal

abbrev pub invariant-lines : goal.invariant-lines
invariant-lines l = record {
  left : read_parts (evidence_reading l.names) [] (parts_of l.text) ≡ read_parts (evidence_reading l.names) l.lines.items (parts_of l.rest);
  count : l.number ≡ suc (length l.lines.items);
  room : l.number + length l.rest ≤ length l.text + 1;
}

abbrev pub decreases-lines : goal.decreases-lines
decreases-lines l = length l.rest

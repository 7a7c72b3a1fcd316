use Rattle.std.proofs.Common.{◌≡◌, ℕ, ◌+◌, ◌≤◌, length}
use Rattle.line_text.specs.Lines.{parts_of}
use Rattle.tso_ops.specs.Settings.{setting_of}
use Rattle.tso_ops.specs.Values.{rows}
use Rattle.tso_text.specs.Internal.Spelling.{items_of}
use Rattle.tso_text.proofs.ReadersFacts.{Reached}
use Rattle.tso_text.proofs.readers.read_body.Given as goal

abbrev pub invariant-lines : goal.invariant-lines
invariant-lines g l = record {
  reached : (i : ℕ) × (l.line ≡ l.lines + i + 1) × Reached (g.T.Form.format.grammar (setting_of l.setting)) (parts_of l.text) i l.rest (rows l.reading.lists.items);
  keeps : g.T.Form.keeps (setting_of l.setting) l.reading.tally (items_of (rows l.reading.lists.items));
  few : length (rows l.reading.lists.items) ≤ 16;
  room : l.line + length l.rest ≤ 1048577;
}

abbrev pub decreases-lines : goal.decreases-lines
decreases-lines g l = length l.rest

use Rattle.std.proofs.Common.{◌≡◌, length}
use Rattle.line_text.specs.Lines.{parts_of}
use Rattle.log_text.specs.LogLines.{widths_of_texts}
use Rattle.log_text.proofs.lines.widths_of_text.Given as goal

abbrev pub invariant-lines : goal.invariant-lines
invariant-lines l = widths_of_texts (parts_of l.rest) ≡ widths_of_texts (parts_of l.text)

abbrev pub decreases-lines : goal.decreases-lines
decreases-lines l = length l.rest

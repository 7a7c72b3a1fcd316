use Rattle.std.proofs.Common.{◌+◌, ◌≤◌, length}
use Rattle.log_text.proofs.TextFacts.{Reached}
use Rattle.log_text.proofs.readers.read_cut.Given as goal

abbrev pub invariant-lines : goal.invariant-lines
invariant-lines l = record {
  reached : Reached l.text l.cutting l.line l.number l.rest l.reading;
  room : l.line + length l.rest ≤ length l.text + 1;
}

abbrev pub decreases-lines : goal.decreases-lines
decreases-lines l = length l.rest

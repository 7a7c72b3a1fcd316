use Rattle.std.proofs.Common.{◌≤◌, ◌+◌, ◌-◌, length, take}
use Rattle.std.specs.Io.KnownBytes.{Appends}
use Rattle.text_streams.proofs.StreamFacts.{interrupt_limit}
use Rattle.text_streams.proofs.writing.write_text.Given as goal

abbrev pub invariant-loop-written : goal.invariant-loop-written
invariant-loop-written g l = record {
  bound : l.written ≤ length l.text;
  tries : l.interrupts ≤ interrupt_limit;
  prefix : Appends (g.W.Write.contents l.fn.writer) (g.W.Write.contents l.writer) (take l.written l.text);
}

abbrev pub decreases-loop-written : goal.decreases-loop-written
decreases-loop-written g l = (length l.text - l.written) + (interrupt_limit - l.interrupts)

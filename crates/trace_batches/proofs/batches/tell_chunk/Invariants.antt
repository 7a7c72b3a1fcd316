use Rattle.std.proofs.Common.{ℕ, ◌-◌, ◌≤◌, List, Option, drop, length}
use Rattle.std.specs.Io.KnownBytes.{prepend_known}
use Rattle.trace_batches.specs.Internal.Progress.{HasWrittenSoFar, printing_by}
use Rattle.trace_batches.proofs.batches.tell_chunk.Given as goal

abbrev pub invariant-loop-from : goal.invariant-loop-from
invariant-loop-from g l = record {
  within : l.from ≤ length l.chunk;
  stands : (remaining now old before : Option (List ℕ)) →
      HasWrittenSoFar (printing_by l.judging) l.judging.kept remaining (prepend_known l.chunk now) old (g.W.Write.contents l.fn.writer) before (g.E.Write.contents l.fn.errors) l.fn.progress.splitter l.fn.progress.tally →
      HasWrittenSoFar (printing_by l.judging) l.judging.kept remaining (prepend_known (drop l.from l.chunk) now) old (g.W.Write.contents l.writer) before (g.E.Write.contents l.errors) l.progress.splitter l.progress.tally;
}

abbrev pub decreases-loop-from : goal.decreases-loop-from
decreases-loop-from g l = length l.chunk - l.from

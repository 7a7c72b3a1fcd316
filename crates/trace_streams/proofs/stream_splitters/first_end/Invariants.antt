use Rattle.std.proofs.Common.{◌≡◌, ◌++◌, ◌≤◌, List, ℕ, drop, take}
use Rattle.trace_streams.specs.StreamSplitters.{part_at}
use Rattle.trace_streams.specs.TraceTexts.{EndsWithin}
use Rattle.trace_streams.proofs.stream_splitters.first_end.Given as goal

abbrev pub invariant-loop-i : goal.invariant-loop-i
invariant-loop-i l = record {
  reached : l.start ≤ l.i;
  before : (part : List ℕ) → l.line ≡ take 4 part → l.before ≡ take 4 (part_at l.start part);
  within : (bytes part : List ℕ) → EndsWithin bytes part → l.line ≡ take 4 part → EndsWithin (bytes ++ take l.i l.chunk) (part_at l.start part ++ drop l.start (take l.i l.chunk));
}

use Rattle.std.proofs.Common.{List, ℕ, None, ◌-◌, ◌≤◌, length, take}
use Rattle.trace_streams.specs.StreamSplitters.{IsAt}
use Rattle.trace_streams.specs.Internal.Searches.{Finds}
use Rattle.trace_streams.proofs.nth_trace_texts.Search.take.Given as goal

abbrev pub invariant-loop-from : goal.invariant-loop-from
invariant-loop-from l = record {
  within : l.from ≤ length l.chunk;
  finds : (bytes : List ℕ) → IsAt l.fn.self.splitter bytes → Finds l.fn.self l.self bytes (take l.from l.chunk) None;
}

abbrev pub decreases-loop-from : goal.decreases-loop-from
decreases-loop-from l = length l.chunk - l.from

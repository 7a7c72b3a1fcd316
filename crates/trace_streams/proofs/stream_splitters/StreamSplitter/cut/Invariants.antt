use Rattle.std.proofs.Common.{ℕ, List, ◌-◌, ◌<◌, ◌≤◌, length, take}
use Rattle.trace_streams.specs.StreamSplitters.{Cuts, IsAt}
use Rattle.trace_streams.proofs.stream_splitters.StreamSplitter.cut.Given as goal

abbrev pub invariant-loop-from : goal.invariant-loop-from
invariant-loop-from l = record {
  within : l.from ≤ length l.chunk;
  cuts : (bytes : List ℕ) → IsAt l.fn.self bytes → Cuts l.fn.self l.self bytes (take l.from l.chunk) l.pieces.items;
  fewer : length l.pieces.items < l.most;
}

abbrev pub decreases-loop-from : goal.decreases-loop-from
decreases-loop-from l = length l.chunk - l.from

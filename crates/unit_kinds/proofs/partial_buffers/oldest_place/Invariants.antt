use Rattle.std.proofs.Common.{◌≡◌, ◌+◌, map, drop}
use Rattle.unit_core.specs.Machine.{oldest_of}
use Rattle.unit_kinds.specs.Internal.Partial.{entry_of}
use Rattle.unit_kinds.proofs.partial_buffers.oldest_place.Given as goal

abbrev pub invariant-loop-place : goal.invariant-loop-place
invariant-loop-place l = oldest_of (map entry_of l.buffer) l.a ≡ l.place + oldest_of (map entry_of (drop l.place l.buffer)) l.a

use Rattle.std.proofs.Common.{◌≡◌, map, drop}
use Rattle.unit_core.specs.Machine.{newest}
use Rattle.unit_kinds.specs.Internal.Partial.{entry_of}
use Rattle.unit_kinds.proofs.partial_buffers.newest_of.Given as goal

abbrev pub invariant-loop-entry : goal.invariant-loop-entry
invariant-loop-entry l = newest (map entry_of l.buffer) l.a l.word ≡ newest (map entry_of (drop l.entry-index l.buffer)) l.a l.seen

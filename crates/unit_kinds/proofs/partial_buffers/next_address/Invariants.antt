use Rattle.unit_kinds.proofs.PartialBufferFacts.{IsFirstAmong}
use Rattle.unit_kinds.proofs.partial_buffers.next_address.Given as goal

abbrev pub invariant-loop-entry : goal.invariant-loop-entry
invariant-loop-entry l = IsFirstAmong l.buffer l.entry-index l.best

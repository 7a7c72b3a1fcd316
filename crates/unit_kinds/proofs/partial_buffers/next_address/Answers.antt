use Rattle.unit_kinds.proofs.PartialBufferFacts.{IsNextAddress-first}
use Rattle.unit_kinds.proofs.partial_buffers.next_address.Goals as goal

pub returns : goal.returns
returns c = IsNextAddress-first c.args.buffer.now c.loop-entry.entry-index c.loop-entry.best c.loop-entry-test.false c.loop-entry.invariant

use Rattle.unit_kinds.specs.Internal.Partial.{AreEmptyBuffers}
use Rattle.unit_kinds.proofs.partial_buffers.make_buffers.Given as goal

abbrev pub invariant-loop-p : goal.invariant-loop-p
invariant-loop-p l = AreEmptyBuffers l.capacity l._p l.buffers.items

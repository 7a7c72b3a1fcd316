use Rattle.std.proofs.Common.{◌≡◌, [], replicate}
use Rattle.circular_buffer.specs.Buffer.{buffer}
use Rattle.store_buffers.proofs.buffers.make_rings.Given as goal

abbrev pub invariant-loop-p : goal.invariant-loop-p
invariant-loop-p l = l.rings.items ≡ replicate l._p (buffer [] l.capacity)

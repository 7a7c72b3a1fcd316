use Rattle.std.proofs.Common.{◌≡◌, drop, None}
use Rattle.store_buffers.specs.Buffers.{newest_value}
use Rattle.store_buffers.proofs.buffers.newest_among.Given as goal

abbrev pub invariant-loop-k : goal.invariant-loop-k
invariant-loop-k l = newest_value (drop l.k l.ring.items) l.a ≡ None

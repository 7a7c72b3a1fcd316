use Rattle.std.proofs.Common.{suc, slice_index, arith}
use Rattle.value_check.proofs.SettlingFacts.{from_index, settled_after}
use Rattle.value_check.proofs.known.Known.settled_start.Goals as goal

pub loop-low-preserved-then-settles_after : goal.loop-low-preserved-then-settles_after
loop-low-preserved-then-settles_after c = (
  omega arith,
  omega (arith, c.loop-low.invariant.1),
  λ t steps known ordered i from within.
      settled_after t steps c.args.question.now _ ((c.settles_after.ensures t steps known).0 c.if-settles_after.true) (suc (slice_index c.args.stores.now i))
      (from_index t c.args.stores.now i _ ordered from within),
)

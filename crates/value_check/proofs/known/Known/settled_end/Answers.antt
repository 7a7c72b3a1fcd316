use Rattle.std.proofs.Common.{suc, slice_index, arith}
use Rattle.value_check.proofs.SettlingFacts.{settled_before, up_to_index}
use Rattle.value_check.proofs.known.Known.settled_end.Goals as goal

pub loop-low-preserved-then-settles_before : goal.loop-low-preserved-then-settles_before
loop-low-preserved-then-settles_before c = (
  omega arith,
  c.loop-low.invariant.1,
  λ t steps known seen ordered i below.
      settled_before t steps c.args.question.now _ ((c.settles_before.ensures t steps known seen).0 c.if-settles_before.true) (suc (slice_index c.args.stores.now i))
      (up_to_index t c.args.stores.now i _ ordered below (omega (arith, c.loop-low.invariant.1))),
)

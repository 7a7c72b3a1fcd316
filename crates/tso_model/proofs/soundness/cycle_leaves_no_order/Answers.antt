use Rattle.tso_ops.proofs.NumberFacts.{own_values}
use Rattle.tso_model.proofs.EdgesForward.{no_cycle}
use Rattle.tso_model.proofs.soundness.cycle_leaves_no_order.Goals as goal

pub returns : goal.returns
returns c t trace k cycle consistent = no_cycle t (own_values t trace) consistent.0 consistent.1 k cycle

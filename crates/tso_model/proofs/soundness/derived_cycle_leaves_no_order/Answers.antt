use Rattle.tso_ops.proofs.NumberFacts.{own_values}
use Rattle.tso_model.proofs.EdgesForward.{no_derived_cycle}
use Rattle.tso_model.proofs.soundness.derived_cycle_leaves_no_order.Goals as goal

pub returns : goal.returns
returns c t trace cycle consistent = no_derived_cycle t (own_values t trace) consistent.0 consistent.1 cycle

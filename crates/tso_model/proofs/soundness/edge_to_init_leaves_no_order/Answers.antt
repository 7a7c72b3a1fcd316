use Rattle.tso_ops.proofs.NumberFacts.{own_values}
use Rattle.tso_model.proofs.EdgesForward.{no_edge_to_zero}
use Rattle.tso_model.proofs.soundness.edge_to_init_leaves_no_order.Goals as goal

pub returns : goal.returns
returns c t trace k u edge consistent = no_edge_to_zero t (own_values t trace) consistent.0 consistent.1 k u edge

use Rattle.tso_ops.proofs.NumberFacts.{own_values}
use Rattle.tso_model.proofs.EdgesForward.{rank_before}
use Rattle.tso_model.proofs.soundness.edges_lead_forwards.Goals as goal

pub returns : goal.returns
returns c t order trace tso k u v edge = rank_before t (own_values t trace) order tso k u v edge

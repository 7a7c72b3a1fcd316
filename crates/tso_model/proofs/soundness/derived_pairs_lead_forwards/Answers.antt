use Rattle.tso_ops.proofs.NumberFacts.{own_values}
use Rattle.tso_model.proofs.EdgesForward.{derived_before}
use Rattle.tso_model.proofs.soundness.derived_pairs_lead_forwards.Goals as goal

pub returns : goal.returns
returns c t order trace tso u v derived = derived_before t (own_values t trace) order tso u v derived

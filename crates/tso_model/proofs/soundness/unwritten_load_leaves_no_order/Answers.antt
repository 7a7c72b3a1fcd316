use Rattle.tso_model.proofs.EdgesForward.{all_written}
use Rattle.tso_model.proofs.soundness.unwritten_load_leaves_no_order.Goals as goal

pub returns : goal.returns
returns c t l unwritten consistent = all_written t consistent.0 consistent.1 l unwritten

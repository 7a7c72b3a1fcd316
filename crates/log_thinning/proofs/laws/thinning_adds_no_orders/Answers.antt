use Rattle.log_thinning.proofs.ThinnedLogs.{thinned_back}
use Rattle.log_thinning.proofs.laws.thinning_adds_no_orders.Goals as goal

pub returns : goal.returns
returns c = thinned_back

use Rattle.log_thinning.proofs.ThinnedLogs.{thinned_forward}
use Rattle.log_thinning.proofs.laws.thinning_keeps_orders.Goals as goal

pub returns : goal.returns
returns c = thinned_forward

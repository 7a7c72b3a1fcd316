use Rattle.log_thinning.proofs.IdleLogs.{idle_swaps_forward}
use Rattle.log_thinning.proofs.laws.idle_swaps_keep_orders.Goals as goal

pub returns : goal.returns
returns c = idle_swaps_forward

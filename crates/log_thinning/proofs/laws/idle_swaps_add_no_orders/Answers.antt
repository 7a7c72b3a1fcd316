use Rattle.log_thinning.proofs.IdleLogs.{idle_swaps_back}
use Rattle.log_thinning.proofs.laws.idle_swaps_add_no_orders.Goals as goal

pub returns : goal.returns
returns c = idle_swaps_back

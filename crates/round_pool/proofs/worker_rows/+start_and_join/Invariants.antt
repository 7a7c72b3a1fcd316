use Rattle.std.proofs.Common.{length}
use Rattle.round_pool.proofs.worker_rows.+start_and_join.Given as goal

abbrev pub decreases-start_and_join : goal.decreases-start_and_join
decreases-start_and_join g l = length l.claimants.items

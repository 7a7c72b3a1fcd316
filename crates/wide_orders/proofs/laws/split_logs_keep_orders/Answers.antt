use Rattle.wide_orders.proofs.SplitLogs.{split_consistent}
use Rattle.wide_orders.proofs.laws.split_logs_keep_orders.Goals as goal

pub returns : goal.returns
returns c = split_consistent

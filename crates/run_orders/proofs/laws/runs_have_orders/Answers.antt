use Rattle.run_orders.proofs.Orders.{log_order}
use Rattle.run_orders.proofs.laws.runs_have_orders.Goals as goal

pub returns : goal.returns
returns c = log_order

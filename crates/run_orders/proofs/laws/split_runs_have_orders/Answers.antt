use Rattle.run_orders.proofs.PieceOrders.{places_order, split_order}
use Rattle.run_orders.proofs.laws.split_runs_have_orders.Goals as goal

pub returns-clause-any : goal.returns-clause-any
returns-clause-any c = split_order

pub returns-clause-own : goal.returns-clause-own
returns-clause-own c = places_order

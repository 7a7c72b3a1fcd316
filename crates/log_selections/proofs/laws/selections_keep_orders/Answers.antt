use Rattle.log_selections.proofs.SelectionOrders.{selection_keeps_orders}
use Rattle.log_selections.proofs.laws.selections_keep_orders.Goals as goal

pub returns : goal.returns
returns c log t selection right = selection_keeps_orders log t selection right

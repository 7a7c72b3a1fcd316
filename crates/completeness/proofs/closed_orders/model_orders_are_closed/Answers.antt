use Rattle.tso_ops.proofs.NumberFacts.{own_values}
use Rattle.completeness.proofs.ModelOrderFacts.{model_order_closed}
use Rattle.completeness.proofs.closed_orders.model_orders_are_closed.Goals as goal

pub returns : goal.returns
returns c t order trace axioms = model_order_closed t (own_values t trace) order axioms

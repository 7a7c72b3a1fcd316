use Rattle.std.proofs.Common.{IsTrue}
use Rattle.completeness.proofs.ClosedOrderFacts.{order_of_closed}
use Rattle.completeness.proofs.closed_orders.closed_orders_are_enough.Goals as goal

pub returns-clause-order : goal.returns-clause-order
returns-clause-order c t before order written closed memory respects = order_of_closed t (λ u v. IsTrue (before u v)) closed order respects written memory

pub returns-clause-consistent : goal.returns-clause-consistent
returns-clause-consistent c t before order written closed memory respects =
    (order, order_of_closed t (λ u v. IsTrue (before u v)) closed order respects written memory)

use Rattle.completeness.proofs.StoreCases.{order_of_test}
use Rattle.completeness.proofs.evidence.closed_orders_are_respected.Goals as goal

pub returns : goal.returns
returns c = order_of_test

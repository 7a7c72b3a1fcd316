use Rattle.completeness.proofs.OrdersTogether.{order_together}
use Rattle.completeness.proofs.runs.swaps_can_be_neighbours.Goals as goal

pub returns : goal.returns
returns c = order_together

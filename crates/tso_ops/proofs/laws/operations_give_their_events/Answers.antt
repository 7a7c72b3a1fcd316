use Rattle.tso_ops.proofs.OperationFacts.{operation_is}
use Rattle.tso_ops.proofs.laws.operations_give_their_events.Goals as goal

pub returns : goal.returns
returns c = operation_is

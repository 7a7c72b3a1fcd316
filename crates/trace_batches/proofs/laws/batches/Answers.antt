use Rattle.trace_batches.proofs.WholeFacts.{one_batch, some_batch}
use Rattle.trace_batches.proofs.laws.batches.Goals as goal

pub returns : goal.returns
returns c = record { exists = some_batch; one = one_batch }

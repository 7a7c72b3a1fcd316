use Rattle.std.proofs.Common.{refl}
use Rattle.trace_batches.proofs.begun.Batch.begin.Goals as goal

pub returns-clause-begun : goal.returns-clause-begun
returns-clause-begun g c = record { prints = refl; counts = c.new.ensures; unread = refl }

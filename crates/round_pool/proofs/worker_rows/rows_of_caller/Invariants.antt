use Rattle.std.proofs.Common.{take}
use Rattle.tso_ops.specs.Values.{rows}
use Rattle.round_pool.specs.Internal.WorkerRows.{AreRowsOf}
use Rattle.round_pool.proofs.worker_rows.rows_of_caller.Given as goal

-- the rows of the numbers passed are there
abbrev pub invariant-loop-number : goal.invariant-loop-number
invariant-loop-number g l = AreRowsOf l.input.trace.now l.input.graph.now (take l.number-index l.numbers) (rows l.computed.items)

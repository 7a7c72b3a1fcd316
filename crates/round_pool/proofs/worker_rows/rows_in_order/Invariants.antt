use Rattle.std.proofs.Common.{take, All}
use Rattle.tso_ops.specs.Values.{rows}
use Rattle.round_pool.specs.Internal.WorkerRows.{IsRow, AreRowsOf}
use Rattle.round_pool.proofs.worker_rows.rows_in_order.Given as goal

-- the rows of the numbers passed are there, and those that are left are rows of their numbers
abbrev pub invariant-loop-number : goal.invariant-loop-number
invariant-loop-number l =
    AreRowsOf l.input.trace.now l.input.graph.now (take l.number-index l.numbers) (rows l.made.items) × All (IsRow l.input.trace.now l.input.graph.now) l.computed.items

use Rattle.round_pool.proofs.WorkerRowFacts.{rows_of_next}
use Rattle.round_pool.proofs.worker_rows.rows_of_caller.Goals as goal

pub loop-number-preserved : goal.loop-number-preserved
loop-number-preserved g c =
    rows_of_next c.args.input.trace.now c.args.input.graph.now c.args.numbers.now c.loop-number.number-index _ c.loop-number.computed.items c.push.new.self.items c.in_ok-compute_row.field-0 c.loop-number-test.true
    c.loop-number.invariant c.in_ok-compute_row.ensures c.in_ok-push.ensures.items

use Rattle.round_pool.proofs.WorkerRowFacts.{rows_of_next}
use Rattle.round_pool.proofs.worker_rows.rows_in_order.Goals as goal

pub loop-number-preserved : goal.loop-number-preserved
loop-number-preserved c = (
  rows_of_next c.args.input.trace.now c.args.input.graph.now c.args.numbers.now c.loop-number.number-index _ c.loop-number.made.items c.push.new.self.items c.in_ok-take_or_compute_row.field-0 c.loop-number-test.true
      c.loop-number.invariant.0 c.in_ok-take_or_compute_row.ensures.row c.in_ok-push.ensures.items,
  c.in_ok-take_or_compute_row.ensures.each,
)

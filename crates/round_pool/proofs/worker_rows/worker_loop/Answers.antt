use Rattle.round_pool.proofs.WorkerRowFacts.{worker_rows_more}
use Rattle.round_pool.proofs.worker_rows.worker_loop.Goals as goal

pub loop-number-preserved : goal.loop-number-preserved
loop-number-preserved g c =
    worker_rows_more c.args.work.input.trace.now c.args.work.input.graph.now c.args.work.claims.now
    record { rows = c.loop-number.rows; claimant = c.loop-number.claimant } record { rows = c.push.new.self; claimant = c.claim.new.claimant } record { number = c.in-Some.number; row = c.in_ok-row.row }
    c.loop-number.invariant c.in_ok-row.ensures c.in-Some.ensures.own c.in-Some.ensures.held c.in_ok-push.ensures.items

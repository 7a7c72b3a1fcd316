use Rattle.std.proofs.Common.{◌-◌, length}
use Rattle.round_pool.specs.Claims.{rows_to_claim, tried_by}
use Rattle.round_pool.specs.Internal.WorkerRows.{AreOfClaimant}
use Rattle.round_pool.proofs.worker_rows.worker_loop.Given as goal

-- the rows computed so far are there
abbrev pub invariant-loop-number : goal.invariant-loop-number
invariant-loop-number g l = AreOfClaimant l.work.input.trace.now l.work.input.graph.now l.work.claims.now record { rows = l.rows; claimant = l.claimant }

-- each claim tries a row
abbrev pub decreases-loop-number : goal.decreases-loop-number
decreases-loop-number g l = length (rows_to_claim l.work.claims.now) - tried_by l.claimant

use Rattle.std.proofs.Common.{sym, subst}
use Rattle.round_pool.specs.Claims.{NoneTwice}
use Rattle.round_pool.proofs.ClaimFacts.{none_twice}
use Rattle.round_pool.proofs.worker_rows.rows_of_workers.Goals as goal

pub returns-clause-once : goal.returns-clause-once
returns-clause-once g c =
    subst NoneTwice (sym c.in_ok-made.ensures.numbers) (none_twice c.args.work.claims.now c.in_ok-made.made.claimant c.in_ok-made.ensures.own)

use Rattle.std.proofs.Common.{subst}
use Rattle.std.specs.Prelude.{IfOk}
use Rattle.round_pool.specs.declared.faults.PoolFault.TheVariants.{OutOfMemory as NoMemory}
use Rattle.round_pool.specs.Internal.WorkerRows.{AreOfClaimant}
use Rattle.round_pool.proofs.AnswerFacts.{answered_both}
use Rattle.round_pool.proofs.WorkerRowFacts.{worker_rows_joined}
use Rattle.round_pool.proofs.worker_rows.merge_rows.Goals as goal

pub returns-clause-rows : goal.returns-clause-rows
returns-clause-rows c =
    let t = c.args.work.input.trace.now in
    let g = c.args.work.input.graph.now in
    let claims = c.args.work.claims.now in
    let answers = c.in_ok-one.ensures in
    let both = answered_both c.args.own c.args.rest (c.in_ok-one.one, c.in_ok-one.more) NoMemory answers.memory answers.rest answers.both in
    worker_rows_joined t g claims c.in_ok-one.one c.in_ok-one.more record { rows = c.append.new.self; claimant = c.join.new.into }
    (subst (λ r. IfOk r (AreOfClaimant t g claims)) both.0 c.requires.own) (subst (λ r. IfOk r (AreOfClaimant t g claims)) both.1 c.requires.rest)
    c.join.ensures.own c.join.ensures.held c.in_ok-append.ensures.items

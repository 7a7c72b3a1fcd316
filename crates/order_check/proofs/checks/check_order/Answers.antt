use Rattle.order_check.proofs.RefusalFacts.{if_ok, told_accepted}
use Rattle.order_check.proofs.checks.check_order.Goals as goal

pub returns-clause-accepted : goal.returns-clause-accepted
returns-clause-accepted c = if_ok _ _ (λ said told. told_accepted c.args.trace.now c.args.order.now said told) c.judge.result c.judge.ensures

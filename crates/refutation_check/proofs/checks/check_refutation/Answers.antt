use Rattle.cert_check.proofs.RefusalFacts.{if_ok}
use Rattle.refutation_check.proofs.Told.{told_no_order, told_accepted}
use Rattle.refutation_check.proofs.checks.check_refutation.Goals as goal

pub returns-clause-no_order : goal.returns-clause-no_order
returns-clause-no_order c =
    if_ok _ _ (λ said told. told_no_order c.args.trace.now c.args.lines.now said c.judge.ensures.kept told) c.judge.result c.judge.ensures.told

pub returns-clause-accepted : goal.returns-clause-accepted
returns-clause-accepted c = if_ok _ _ (λ said told. told_accepted c.args.trace.now c.args.lines.now said told) c.judge.result c.judge.ensures.told

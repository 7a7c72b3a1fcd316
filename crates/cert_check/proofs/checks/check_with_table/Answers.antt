use Rattle.cert_check.proofs.RefusalFacts.{if_ok, told_no_order, told_accepted}
use Rattle.cert_check.proofs.checks.check_with_table.Goals as goal

pub returns-clause-no_order : goal.returns-clause-no_order
returns-clause-no_order c =
    if_ok _ _ (λ said told. told_no_order c.args.trace.now c.args.certificate.now said c.judge_with_table.ensures.kept told) c.judge_with_table.result c.judge_with_table.ensures.told

pub returns-clause-accepted : goal.returns-clause-accepted
returns-clause-accepted c =
    if_ok _ _ (λ said told. told_accepted c.args.trace.now c.args.certificate.now said told) c.judge_with_table.result c.judge_with_table.ensures.told

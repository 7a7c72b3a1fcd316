use Rattle.cert_check.proofs.RefusalFacts.{told_no_order, told_accepted}
use Rattle.cert_check.proofs.checks.check.Goals as goal

pub returns-clause-no_order : goal.returns-clause-no_order
returns-clause-no_order c = told_no_order c.args.trace.now c.args.certificate.now c.judge.result c.judge.ensures.kept c.judge.ensures.told

pub returns-clause-accepted : goal.returns-clause-accepted
returns-clause-accepted c = told_accepted c.args.trace.now c.args.certificate.now c.judge.result c.judge.ensures.told

use Rattle.std.proofs.lemmas.Result.{IfOk-weaker}
use Rattle.log_text.specs.LogValues.{log_operations, log_value}
use Rattle.value_check.proofs.Told.{told_no_order, told_accepted}
use Rattle.value_check.proofs.refutation_checks.check_value_refutation.Goals as goal

pub returns-clause-no_order : goal.returns-clause-no_order
returns-clause-no_order c =
    IfOk-weaker c.judge.result _ _ (λ said told. told_no_order (log_operations (log_value c.args.log.now)) c.args.lines.now said told) c.judge.ensures

pub returns-clause-accepted : goal.returns-clause-accepted
returns-clause-accepted c =
    IfOk-weaker c.judge.result _ _ (λ said told. told_accepted (log_operations (log_value c.args.log.now)) c.args.lines.now said told) c.judge.ensures

use Rattle.std.proofs.lemmas.Result.{IfOk-weaker}
use Rattle.trace_judging.proofs.ViolationFacts.{violation_by_cycle}
use Rattle.trace_judging.proofs.violations.try_trace.Goals as goal

pub returns-in-None-clause-violation : goal.returns-in-None-clause-violation
returns-in-None-clause-violation g c =
    IfOk-weaker c.try_written.result _ _ (λ trial cycle. violation_by_cycle c.args.trace.now trial.is_violation c.in-None.ensures cycle) c.try_written.ensures.cycle

use Rattle.trace_judging.proofs.ViolationFacts.{violation_no_order}
use Rattle.trace_judging.proofs.violations.is_violation.Goals as goal

pub returns-clause-no_order : goal.returns-clause-no_order
returns-clause-no_order g c = λ is. violation_no_order c.args.trace.now c.events-events.ensures.kept (c.in_ok-trial.ensures.violation.0 is)

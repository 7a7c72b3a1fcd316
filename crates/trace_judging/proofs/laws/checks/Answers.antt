use Rattle.trace_judging.proofs.CheckFacts.{check_verdict, check_violation, one_check_report, some_check_report}
use Rattle.trace_judging.proofs.laws.checks.Goals as goal

pub returns : goal.returns
returns c = record { exists = some_check_report; one = one_check_report; violation = check_violation; otherwise = check_verdict }

use Rattle.log_evidence.proofs.CheckFacts.{check_answer, check_consistent, check_violation, one_check, ordered_consistent, refuted_no_order}
use Rattle.log_evidence.proofs.laws.checks.Goals as goal

pub returns : goal.returns
returns c = record { one = one_check; violation = check_violation; consistent = check_consistent; otherwise = check_answer; no_order = refuted_no_order; some_order = ordered_consistent }

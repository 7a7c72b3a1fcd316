use Rattle.log_reports.proofs.ViolationFacts.{lines_violation, log_violation, report_violation}
use Rattle.log_reports.proofs.laws.violations.Goals as goal

pub returns : goal.returns
returns c = record { log = log_violation; report = report_violation; lines = λ log selected finding listed. lines_violation log selected.shown.items selected.trace listed.0 listed.1 }

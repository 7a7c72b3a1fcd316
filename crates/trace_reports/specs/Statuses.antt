-- The statuses of verdicts and answers.
use Rattle.std.specs.Prelude.{ℕ}
use Rattle.trace_reports.specs.declared.answers.Answer.{Answer}
use Rattle.trace_reports.specs.declared.answers.Answer.TheVariants as answered
use Rattle.trace_reports.specs.declared.verdicts.Verdict.{Verdict}
use Rattle.trace_reports.specs.declared.verdicts.Verdict.TheVariants.{NoViolation, Violation, Refused}

abbrev pub status_of : Verdict → ℕ
status_of NoViolation = 0
status_of Refused = 2
status_of Violation = 3

abbrev pub status_of_answer : Answer → ℕ
status_of_answer answered.Clear = 0
status_of_answer answered.Undecided = 1
status_of_answer answered.Refused = 2
status_of_answer answered.Violation = 3
status_of_answer answered.Unread = 4

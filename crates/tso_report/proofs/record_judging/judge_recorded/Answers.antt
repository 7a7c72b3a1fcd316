use Rattle.std.proofs.Common.{string_bytes}
use Rattle.trace_reports.proofs.RenderingFacts.{shows_no_violation_of, shows_violation_of, trace_violation}
use Rattle.tso_report.proofs.record_judging.judge_recorded.Goals as goal

-- what was rendered is the report of the record's trace
pub returns-clause-violation : goal.returns-clause-violation
returns-clause-violation g c =
    trace_violation c.args.recorded.now.trace (string_bytes c.in_ok-report.report.text) c.in_ok-report.report.verdict c.in_ok-report.ensures.report

pub returns-clause-holds : goal.returns-clause-holds
returns-clause-holds g c = λ violation.
    let text = string_bytes c.in_ok-report.report.text in
    let verdict = c.in_ok-report.report.verdict in
    (text, shows_violation_of c.args.recorded.now.trace text verdict c.in_ok-report.ensures.report violation, rw (← c.as_bytes.ensures.value) c.in_ok-write_text.ensures.whole)

pub returns-clause-no_false_alarm : goal.returns-clause-no_false_alarm
returns-clause-no_false_alarm g c = λ lawful.
    let text = string_bytes c.in_ok-report.report.text in
    let verdict = c.in_ok-report.report.verdict in
    let none = c.in_ok-report.ensures.no_false_alarm lawful in
    (none, (text, shows_no_violation_of c.args.recorded.now.trace text verdict c.in_ok-report.ensures.report none, rw (← c.as_bytes.ensures.value) c.in_ok-write_text.ensures.whole))

use Rattle.std.proofs.Common.{◌≡◌, ◌++◌, rules, string_bytes}
use Rattle.tso_report.specs.AccountTexts.{account_text}
use Rattle.run_serving.proofs.printing.render_record.Goals as goal

pub returns-in_ok-extend_from_slice-in-Report-clause-text : goal.returns-in_ok-extend_from_slice-in-Report-clause-text
returns-in_ok-extend_from_slice-in-Report-clause-text g c =
    let report = c.in_ok-report-in-Report.report in
    let told = c.in_ok-report-in-Report.ensures in
    let text = string_bytes report.text in
    let whole : c.extend_from_slice.new.self.items ≡ text ++ account_text c.args.account.now = search rules in
    rw c.in-Report.is (text, report.verdict, told.report, told.no_false_alarm, whole, c.status_of-status.ensures)

pub returns-in-Explanation-clause-text : goal.returns-in-Explanation-clause-text
returns-in-Explanation-clause-text g c = rw c.in-Explanation.is (c.print_explanation.ensures.text c.args.account.now)

use Rattle.request_serving.specs.Endings.{IsVerdictAsAsked}
use Rattle.request_serving.proofs.AskedFacts.{report_left, report_written, verdict_asked}
use Rattle.request_texts.specs.OpenedFiles.{name_in, text_bytes}
use Rattle.request_serving.proofs.serving.judging.judge_named.Goals as goal

pub returns-clause-presented : goal.returns-clause-presented
returns-clause-presented g c =
    let request = c.args.request.now in
    let remaining = text_bytes (name_in request.file) (g.R.Read.remaining c.args.reader.now) (g.O.Environment.bytes c.args.files.now) in
    let is = verdict_asked request.nth remaining _ c.in_ok-asked.ensures.text _ request.presentation _ c.in_ok-report.ensures.said in
    report_written (IsVerdictAsAsked request.presentation request.nth remaining) _ _ _ _ is c.write_report.result c.write_report.ensures.whole

pub returns-clause-fault : goal.returns-clause-fault
returns-clause-fault g c =
    let request = c.args.request.now in
    let remaining = text_bytes (name_in request.file) (g.R.Read.remaining c.args.reader.now) (g.O.Environment.bytes c.args.files.now) in
    let is = verdict_asked request.nth remaining _ c.in_ok-asked.ensures.text _ request.presentation _ c.in_ok-report.ensures.said in
    report_left (IsVerdictAsAsked request.presentation request.nth remaining) _ _ _ _ is c.write_report.result c.write_report.ensures.fault

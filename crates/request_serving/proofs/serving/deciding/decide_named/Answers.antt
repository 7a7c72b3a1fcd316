use Rattle.request_serving.specs.Deciding.{IsDecided}
use Rattle.request_serving.proofs.AskedFacts.{decision_asked, report_left, report_written}
use Rattle.request_texts.specs.OpenedFiles.{name_in, text_bytes}
use Rattle.request_serving.proofs.serving.deciding.decide_named.Goals as goal

pub returns-clause-decided : goal.returns-clause-decided
returns-clause-decided g c =
    let request = c.args.request.now in
    let remaining = text_bytes (name_in request.file) (g.R.Read.remaining c.args.reader.now) (g.O.Environment.bytes c.args.files.now) in
    let is = decision_asked request.nth remaining _ c.in_ok-asked.ensures.text _ request.presentation request.effort _ c.in_ok-report.ensures.said in
    report_written (IsDecided request.presentation request.effort request.nth remaining) _ _ _ _ is c.write_report.result c.write_report.ensures.whole

pub returns-clause-fault : goal.returns-clause-fault
returns-clause-fault g c =
    let request = c.args.request.now in
    let remaining = text_bytes (name_in request.file) (g.R.Read.remaining c.args.reader.now) (g.O.Environment.bytes c.args.files.now) in
    let is = decision_asked request.nth remaining _ c.in_ok-asked.ensures.text _ request.presentation request.effort _ c.in_ok-report.ensures.said in
    report_left (IsDecided request.presentation request.effort request.nth remaining) _ _ _ _ is c.write_report.result c.write_report.ensures.fault

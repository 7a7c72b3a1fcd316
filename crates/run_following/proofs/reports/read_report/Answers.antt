use Rattle.std.proofs.lemmas.Result.{IfOk-weaker}
use Rattle.text_streams.proofs.ReadingFacts.{reads_more}
use Rattle.run_following.proofs.reports.read_report.Goals as goal

pub returns-clause-report : goal.returns-clause-report
returns-clause-report g c =
    let ending = c.in_ok-ending.ensures in
    IfOk-weaker c.report_on.result _ _ (λ report is. reads_more (λ bytes ends. is c.args.options bytes ending.most ends) (g.R.Read.remaining c.args.reader.now) ending.ending) c.report_on.ensures.report

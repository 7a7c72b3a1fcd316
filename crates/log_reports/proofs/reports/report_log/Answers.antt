use Rattle.log_reports.proofs.ReadFacts.{reader_violation, reader_written}
use Rattle.log_reports.proofs.reports.report_log.Goals as goal

pub returns-clause-no_order : goal.returns-clause-no_order
returns-clause-no_order g c = λ gives. reader_violation (g.P.Rendering.rendered c.args.reporting.now.rendering.now) (g.P.Rendering.refused c.args.reporting.now.rendering.now) c.args.reporting.now.options (g.R.Read.remaining c.args.reader.now) _ _ c.in_ok-report.ensures.report gives

pub returns-clause-written : goal.returns-clause-written
returns-clause-written g c = λ gives. reader_written (g.P.Rendering.rendered c.args.reporting.now.rendering.now) (g.P.Rendering.refused c.args.reporting.now.rendering.now) c.args.reporting.now.options (g.R.Read.remaining c.args.reader.now) _ _ c.in_ok-report.ensures.report gives

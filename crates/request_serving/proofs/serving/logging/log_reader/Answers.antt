use Rattle.std.proofs.Common.{IfErr, IfOk, subst, sym}
use Rattle.log_reports.specs.LogReports.{IsLogReportOfReader}
use Rattle.request_options.specs.declared.logs.LogForm.{LogForm}
use Rattle.request_serving.specs.Presentations.{log_refused_as, logged_as}
use Rattle.text_streams.specs.WrittenTexts.{LeavesAtFault, WritesWhole}
use Rattle.request_serving.proofs.serving.logging.log_reader.Goals as goal

pub returns-in-Lines-clause-whole : goal.returns-in-Lines-clause-whole
returns-in-Lines-clause-whole g c =
    let said = λ (form : LogForm). IsLogReportOfReader (logged_as form) (log_refused_as form) c.args.options.now (g.R.Read.remaining c.args.reader.now) in
    subst (λ form. IfOk c.report_log.result (WritesWhole (said form) (g.W.Write.contents c.args.writer.now) (g.W.Write.contents c.report_log.new.writer))) (sym c.in-Lines.is) c.report_log.ensures.report

pub returns-in-Lines-clause-left : goal.returns-in-Lines-clause-left
returns-in-Lines-clause-left g c =
    let said = λ (form : LogForm). IsLogReportOfReader (logged_as form) (log_refused_as form) c.args.options.now (g.R.Read.remaining c.args.reader.now) in
    subst (λ form. IfErr c.report_log.result (LeavesAtFault (said form) (g.W.Write.contents c.args.writer.now) (g.W.Write.contents c.report_log.new.writer))) (sym c.in-Lines.is) c.report_log.ensures.left

pub returns-in-Explained-clause-whole : goal.returns-in-Explained-clause-whole
returns-in-Explained-clause-whole g c =
    let said = λ (form : LogForm). IsLogReportOfReader (logged_as form) (log_refused_as form) c.args.options.now (g.R.Read.remaining c.args.reader.now) in
    subst (λ form. IfOk c.report_log-in-Explained.result (WritesWhole (said form) (g.W.Write.contents c.args.writer.now) (g.W.Write.contents c.report_log-in-Explained.new.writer))) (sym c.in-Explained.is) c.report_log-in-Explained.ensures.report

pub returns-in-Explained-clause-left : goal.returns-in-Explained-clause-left
returns-in-Explained-clause-left g c =
    let said = λ (form : LogForm). IsLogReportOfReader (logged_as form) (log_refused_as form) c.args.options.now (g.R.Read.remaining c.args.reader.now) in
    subst (λ form. IfErr c.report_log-in-Explained.result (LeavesAtFault (said form) (g.W.Write.contents c.args.writer.now) (g.W.Write.contents c.report_log-in-Explained.new.writer))) (sym c.in-Explained.is) c.report_log-in-Explained.ensures.left

pub returns-in-Traces-clause-whole : goal.returns-in-Traces-clause-whole
returns-in-Traces-clause-whole g c =
    let said = λ (form : LogForm). IsLogReportOfReader (logged_as form) (log_refused_as form) c.args.options.now (g.R.Read.remaining c.args.reader.now) in
    subst (λ form. IfOk c.report_log-in-Traces.result (WritesWhole (said form) (g.W.Write.contents c.args.writer.now) (g.W.Write.contents c.report_log-in-Traces.new.writer))) (sym c.in-Traces.is) c.report_log-in-Traces.ensures.report

pub returns-in-Traces-clause-left : goal.returns-in-Traces-clause-left
returns-in-Traces-clause-left g c =
    let said = λ (form : LogForm). IsLogReportOfReader (logged_as form) (log_refused_as form) c.args.options.now (g.R.Read.remaining c.args.reader.now) in
    subst (λ form. IfErr c.report_log-in-Traces.result (LeavesAtFault (said form) (g.W.Write.contents c.args.writer.now) (g.W.Write.contents c.report_log-in-Traces.new.writer))) (sym c.in-Traces.is) c.report_log-in-Traces.ensures.left

pub returns-in-Evidence-clause-whole : goal.returns-in-Evidence-clause-whole
returns-in-Evidence-clause-whole g c =
    let said = λ (form : LogForm). IsLogReportOfReader (logged_as form) (log_refused_as form) c.args.options.now (g.R.Read.remaining c.args.reader.now) in
    subst (λ form. IfOk c.report_log-in-Evidence.result (WritesWhole (said form) (g.W.Write.contents c.args.writer.now) (g.W.Write.contents c.report_log-in-Evidence.new.writer))) (sym c.in-Evidence.is) c.report_log-in-Evidence.ensures.report

pub returns-in-Evidence-clause-left : goal.returns-in-Evidence-clause-left
returns-in-Evidence-clause-left g c =
    let said = λ (form : LogForm). IsLogReportOfReader (logged_as form) (log_refused_as form) c.args.options.now (g.R.Read.remaining c.args.reader.now) in
    subst (λ form. IfErr c.report_log-in-Evidence.result (LeavesAtFault (said form) (g.W.Write.contents c.args.writer.now) (g.W.Write.contents c.report_log-in-Evidence.new.writer))) (sym c.in-Evidence.is) c.report_log-in-Evidence.ensures.left

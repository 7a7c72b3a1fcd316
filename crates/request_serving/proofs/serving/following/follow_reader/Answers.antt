use Rattle.std.proofs.Common.{◌++◌, IfErr, IfOk, subst, sym}
use Rattle.std.proofs.lemmas.Result.{IfOk-weaker}
use Rattle.request_options.specs.declared.following.RunFormat.{RunFormat}
use Rattle.run_following.specs.Reports.{IsRunReportOfReader}
use Rattle.request_serving.specs.Presentations.{run_refused_in, run_rendered_in}
use Rattle.text_streams.specs.WrittenTexts.{LeavesAtFault, WritesWhole}
use Rattle.request_serving.proofs.serving.following.follow_reader.Goals as goal

pub returns-in-Words-clause-whole : goal.returns-in-Words-clause-whole
returns-in-Words-clause-whole g c =
    let options = c.args.options in
    let said = λ (form : RunFormat). IsRunReportOfReader (run_rendered_in form options.is_explained) (run_refused_in form) options (g.R.Read.remaining c.args.reader.now) in
    subst (λ form. IfOk c.follow_run.result (WritesWhole (said form) (g.W.Write.contents c.args.writer.now) (g.W.Write.contents c.follow_run.new.writer))) (sym c.in-Words.is) c.follow_run.ensures.report

pub returns-in-Words-clause-fault : goal.returns-in-Words-clause-fault
returns-in-Words-clause-fault g c =
    let options = c.args.options in
    let said = λ (form : RunFormat). IsRunReportOfReader (run_rendered_in form options.is_explained) (run_refused_in form) options (g.R.Read.remaining c.args.reader.now) in
    subst (λ form. IfErr c.follow_run.result (LeavesAtFault (said form) (g.W.Write.contents c.args.writer.now) (g.W.Write.contents c.follow_run.new.writer))) (sym c.in-Words.is) c.follow_run.ensures.left

pub returns-in-Json-clause-whole : goal.returns-in-Json-clause-whole
returns-in-Json-clause-whole g c =
    let options = c.args.options in
    let said = λ (form : RunFormat). IsRunReportOfReader (run_rendered_in form options.is_explained) (run_refused_in form) options (g.R.Read.remaining c.args.reader.now) in
    subst (λ form. IfOk c.follow_run-in-Json.result (WritesWhole (said form) (g.W.Write.contents c.args.writer.now) (g.W.Write.contents c.follow_run-in-Json.new.writer))) (sym c.in-Json.is) c.follow_run-in-Json.ensures.report

pub returns-in-Json-clause-fault : goal.returns-in-Json-clause-fault
returns-in-Json-clause-fault g c =
    let options = c.args.options in
    let said = λ (form : RunFormat). IsRunReportOfReader (run_rendered_in form options.is_explained) (run_refused_in form) options (g.R.Read.remaining c.args.reader.now) in
    subst (λ form. IfErr c.follow_run-in-Json.result (LeavesAtFault (said form) (g.W.Write.contents c.args.writer.now) (g.W.Write.contents c.follow_run-in-Json.new.writer))) (sym c.in-Json.is) c.follow_run-in-Json.ensures.left

pub returns-in-Words-clause-taken : goal.returns-in-Words-clause-taken
returns-in-Words-clause-taken g c = IfOk-weaker c.follow_run.result _ _ (λ answer taken. (taken.0 ++ taken.1, taken.2)) c.follow_run.ensures.taken

pub returns-in-Json-clause-taken : goal.returns-in-Json-clause-taken
returns-in-Json-clause-taken g c = IfOk-weaker c.follow_run-in-Json.result _ _ (λ answer taken. (taken.0 ++ taken.1, taken.2)) c.follow_run-in-Json.ensures.taken

use Rattle.std.proofs.Common.{string_bytes}
use Rattle.std.proofs.lemmas.Result.{IfOk-weaker}
use Rattle.trace_judging.proofs.EvidenceFacts.{refused_by_read, report_of_readers}
use Rattle.trace_judging.proofs.ReaderFacts.{spelled_by_all}
use Rattle.trace_judging.proofs.evidence.report_texts.Goals as goal

pub returns-clause-report : goal.returns-clause-report
returns-clause-report g c =
    IfOk-weaker c.report_text.result _ _
    (λ report is. report_of_readers g.K.EvidenceKind.is_report g.K.EvidenceKind.refusing (g.T.Read.remaining c.args.traces.now) (g.E.Read.remaining c.args.evidence.now) _ _ (string_bytes report.text) report.verdict c.in_ok-input.ensures.prefix c.deref.ensures.value is)
    c.report_text.ensures.report

pub returns-clause-says : goal.returns-clause-says
returns-clause-says g c =
    IfOk-weaker c.report_text.result _ _
    (λ report says. spelled_by_all (λ t. g.K.EvidenceKind.says t report.verdict) (g.T.Read.remaining c.args.traces.now) _ c.deref.result.now c.in_ok-input.ensures.prefix c.deref.ensures.value says)
    c.report_text.ensures.says

pub returns-clause-unread : goal.returns-clause-unread
returns-clause-unread g c = refused_by_read (g.T.Read.remaining c.args.traces.now) _ c.deref.result.now c.in_ok-input.ensures.prefix c.deref.ensures.value c.report_text.ensures.unread

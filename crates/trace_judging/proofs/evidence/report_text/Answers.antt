use Rattle.std.proofs.Common.{◌∙◌}
use Rattle.trace_judging.proofs.EvidenceFacts.{not_refused_trace, report_of_refused, report_of_spelled}
use Rattle.trace_judging.proofs.evidence.report_text.Goals as goal

pub returns-in_err-text-in-Ok-clause-unread : goal.returns-in_err-text-in-Ok-clause-unread
returns-in_err-text-in-Ok-clause-unread g c = not_refused_trace _ c.args.input.now _ c.in-Ok.ensures.found

pub returns-in_err-report-in-Ok-clause-unread : goal.returns-in_err-report-in-Ok-clause-unread
returns-in_err-report-in-Ok-clause-unread g c = not_refused_trace _ c.args.input.now _ c.in-Ok.ensures.found

pub returns-in_ok-report-in-Ok-clause-report : goal.returns-in_ok-report-in-Ok-clause-report
returns-in_ok-report-in-Ok-clause-report g c =
    report_of_spelled g.K.EvidenceKind.is_report g.K.EvidenceKind.refusing c.args.input.now _ c.in-Ok.ensures.found (g.E.Read.remaining c.args.evidence.now) _ _ _ c.in_ok-report-in-Ok.field-0.verdict
    c.in_ok-text-in-Ok.ensures.prefix c.deref.ensures.value c.in_ok-text-in-Ok.ensures.within c.in_ok-report-in-Ok.ensures.report

pub returns-in_ok-report-in-Ok-clause-unread : goal.returns-in_ok-report-in-Ok-clause-unread
returns-in_ok-report-in-Ok-clause-unread g c = not_refused_trace _ c.args.input.now _ c.in-Ok.ensures.found

pub returns-in_ok-render_refused-in-Err-clause-report : goal.returns-in_ok-render_refused-in-Err-clause-report
returns-in_ok-render_refused-in-Err-clause-report g c =
    let refused = c.in_ok-render_refused-in-Err.ensures.refused in
    report_of_refused g.K.EvidenceKind.is_report g.K.EvidenceKind.refusing c.args.input.now _ c.in_ok-render_refused-in-Err.field-0.verdict
    (c.in-Err.fault.line, c.in-Err.fault.why, c.in-Err.ensures.refused refused.0, refused.1, refused.2 ∙ c.refusal-refusing.ensures) (g.E.Read.remaining c.args.evidence.now)

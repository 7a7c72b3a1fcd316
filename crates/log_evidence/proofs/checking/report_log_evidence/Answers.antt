use Rattle.log_text.specs.LogValues.{log_value}
use Rattle.log_evidence.proofs.ReaderFacts.{check_of_refused, check_of_spelled, not_refused_log}
use Rattle.log_evidence.proofs.checking.report_log_evidence.Goals as goal

pub returns-in_err-text-in-Ok-clause-unread : goal.returns-in_err-text-in-Ok-clause-unread
returns-in_err-text-in-Ok-clause-unread g c = not_refused_log _ c.args.input.now _ c.in-Ok.ensures.found

pub returns-in_err-line_on_text-in-Ok-clause-unread : goal.returns-in_err-line_on_text-in-Ok-clause-unread
returns-in_err-line_on_text-in-Ok-clause-unread g c = not_refused_log _ c.args.input.now _ c.in-Ok.ensures.found

pub returns-in_ok-line_on_text-in-Ok-clause-report : goal.returns-in_ok-line_on_text-in-Ok-clause-report
returns-in_ok-line_on_text-in-Ok-clause-report g c =
    check_of_spelled c.args.input.now (log_value c.in-Ok.log) c.in-Ok.ensures.found (g.E.Read.remaining c.args.evidence.now) _ _ _ c.in_ok-line_on_text-in-Ok.field-0.verdict
    c.in_ok-text-in-Ok.ensures.prefix c.deref.ensures.value c.in_ok-text-in-Ok.ensures.within c.in_ok-line_on_text-in-Ok.ensures

pub returns-in_ok-line_on_text-in-Ok-clause-unread : goal.returns-in_ok-line_on_text-in-Ok-clause-unread
returns-in_ok-line_on_text-in-Ok-clause-unread g c = not_refused_log _ c.args.input.now _ c.in-Ok.ensures.found

pub returns-in_ok-render_refused-in-Err-clause-report : goal.returns-in_ok-render_refused-in-Err-clause-report
returns-in_ok-render_refused-in-Err-clause-report g c =
    let refused = c.in_ok-render_refused-in-Err.ensures.refused in
    check_of_refused c.args.input.now _ c.in_ok-render_refused-in-Err.field-0.verdict c.in-Err.fault.line c.in-Err.fault.why (c.in-Err.ensures.refused refused.0) refused.1 refused.2 (g.E.Read.remaining c.args.evidence.now)

use Rattle.std.proofs.Common.{◌∙◌, ◌++◌, ap, codes}
use Rattle.log_reports.specs.Lines.{log_lines_text}
use Rattle.log_reports.specs.LogTexts.{counts_text, numbered_from, total_text, verdict_text, violation_text}
use Rattle.log_reports.proofs.rendering.render_report.Goals as goal

pub returns : goal.returns
returns c =
    let found = c.args.found.now in
    let findings = found.findings in
    let violations = numbered_from (violation_text c.args.explains found.tags found.counts.processors) (codes "violation ") 1 in
    let unjudged = numbered_from (λ shown. log_lines_text found.tags shown.items) (codes "unjudged ") 1 in
    let said = counts_text found.tags found.counts ++ verdict_text found in
    c.in_ok-push_unjudged.ensures
    ∙ ap (λ xs. xs ++ unjudged c.deref-2.result.now)
    (c.in_ok-push_total.ensures ∙ ap (λ xs. xs ++ total_text findings)
    (c.in_ok-push_numbered.ensures ∙ ap (λ xs. xs ++ violations c.deref.result.now) (c.in_ok-push_verdict.ensures ∙ ap (λ xs. xs ++ verdict_text found) c.in_ok-text.ensures)))
    ∙ ap (λ xs. said ++ violations c.deref.result.now ++ total_text findings ++ unjudged xs) c.deref-2.ensures.value
    ∙ ap (λ xs. said ++ violations xs ++ total_text findings ++ unjudged findings.unjudged.items) c.deref.ensures.value

use Rattle.std.proofs.Common.{ap, string_bytes, subst, sym}
use Rattle.std.proofs.lemmas.Result.{IfOk-weaker}
use Rattle.log_text.specs.LogValues.{log_operations, log_value}
use Rattle.value_texts.specs.Printed.{log_evidence_value, refutation_of}
use Rattle.log_evidence.specs.LogChecks.{IsValueLine}
use Rattle.log_evidence.proofs.lines.line_on_evidence.Goals as goal

pub returns-in-Refutation : goal.returns-in-Refutation
returns-in-Refutation c =
    let t = log_operations (log_value c.args.log.now) in
    let names = c.args.names.now in
    IfOk-weaker c.line_on_refutation.result _ _
    (λ report line. subst (λ e. IsValueLine t names e (string_bytes report.text) report.verdict) (sym (ap log_evidence_value c.in-Refutation.is))
    (subst (λ lines. IsValueLine t names (refutation_of lines) (string_bytes report.text) report.verdict) c.deref-in-Refutation.ensures.value (line names)))
    c.line_on_refutation.ensures

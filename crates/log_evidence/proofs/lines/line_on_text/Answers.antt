use Rattle.std.proofs.Common.{rules, string_bytes, IfOk}
use Rattle.std.proofs.lemmas.Result.{IfOk-weaker}
use Rattle.log_text.specs.LogValues.{log_value, log_operations}
use Rattle.log_thinning.specs.IdleSwaps.{with_idle_swaps_read}
use Rattle.value_texts.specs.Printed.{log_evidence_value}
use Rattle.log_evidence.specs.LogChecks.{IsValueLine}
use Rattle.log_evidence.proofs.ReaderFacts.{report_of_values}
use Rattle.log_evidence.proofs.lines.line_on_text.Goals as goal

pub returns-in-Ok : goal.returns-in-Ok
returns-in-Ok c =
    let line : IfOk c.line_on_evidence.result (λ report. IsValueLine (log_operations (log_value c.in_ok-read.read)) c.deref.result.now (log_evidence_value c.in-Ok.evidence) (string_bytes report.text) report.verdict) = search rules in
    IfOk-weaker c.line_on_evidence.result _ _
    (λ report line. report_of_values (with_idle_swaps_read (log_value c.args.log.now)) (log_value c.in_ok-read.read) c.in_ok-names.names.items c.deref.result.now c.args.input.now (string_bytes report.text) (log_evidence_value c.in-Ok.evidence) report.verdict c.in_ok-read.ensures c.in_ok-names.ensures c.deref.ensures.value c.in-Ok.ensures.found line)
    line

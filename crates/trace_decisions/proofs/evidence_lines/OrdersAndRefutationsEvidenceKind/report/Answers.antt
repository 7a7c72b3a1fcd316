use Rattle.std.proofs.Common.{string_bytes}
use Rattle.std.proofs.lemmas.Result.{IfOk-weaker}
use Rattle.tso_evidence.specs.declared.evidence.Evidence.TheVariants.{Refutation, Unwritten}
use Rattle.trace_decisions.proofs.EvidenceFacts.{line_says}
use Rattle.trace_decisions.proofs.evidence_lines.OrdersAndRefutationsEvidenceKind.report.Goals as goal

pub returns-in-Ok-Unwritten-clause-says : goal.returns-in-Ok-Unwritten-clause-says
returns-in-Ok-Unwritten-clause-says c =
    IfOk-weaker c.line_on_load.result _ _ (λ report line. line_says c.args.trace.now c.events-events.ensures.kept (Unwritten c.in-Ok-Unwritten.n) (string_bytes report.text) report.verdict line) c.line_on_load.ensures

pub returns-in-Ok-Refutation-clause-says : goal.returns-in-Ok-Refutation-clause-says
returns-in-Ok-Refutation-clause-says c =
    IfOk-weaker c.line_on_refutation.result _ _ (λ report line. line_says c.args.trace.now c.events-events.ensures.kept (Refutation c.items-in-Ok-Refutation.result.now) (string_bytes report.text) report.verdict line) c.line_on_refutation.ensures

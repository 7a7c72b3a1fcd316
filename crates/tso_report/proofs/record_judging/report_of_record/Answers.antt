use Rattle.std.proofs.Common.{◌≡◌, string_bytes, subst}
use Rattle.tso_model.specs.Axioms.{IsConsistent}
use Rattle.trace_reports.specs.Reports.{IsTraceReport}
use Rattle.trace_reports.specs.declared.verdicts.Verdict.TheVariants.{Violation}
use Rattle.trace_reports.proofs.RenderingFacts.{consistent_verdict}
use Rattle.tso_report.proofs.LawfulRecords.{lawful_consistent}
use Rattle.tso_report.proofs.record_judging.report_of_record.Goals as goal

-- a lawful record is of a complete run, whose trace has an order
pub returns-clause-no_false_alarm : goal.returns-clause-no_false_alarm
returns-clause-no_false_alarm g c = λ lawful.
    let text = string_bytes c.in_ok-report.report.text in
    let verdict = c.in_ok-report.report.verdict in
    let rendered = subst (λ t. IsTraceReport t text verdict) c.trace.ensures.is c.in_ok-report.ensures.rendered in
    let no_order = subst (λ t. verdict ≡ Violation → IsConsistent t → ⊥) c.trace.ensures.is c.in_ok-report.ensures.says.no_order in
    consistent_verdict c.args.recorded.now.trace text verdict rendered no_order (lawful_consistent c.args.recorded.now c.trace.ensures.kept lawful)

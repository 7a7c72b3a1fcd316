use Rattle.std.proofs.Common.{◌≡◌, rules, string_bytes, subst}
use Rattle.tso_model.specs.Axioms.{IsConsistent}
use Rattle.trace_reports.specs.declared.verdicts.Verdict.TheVariants.{Violation}
use Rattle.tso_report.proofs.LawfulRecords.{lawful_consistent}
use Rattle.trace_explanation.specs.Explained.{IsTraceExplanation}
use Rattle.trace_reports.proofs.RenderingFacts.{consistent_verdict}
use Rattle.run_serving.proofs.printing.print_explanation.Goals as goal

-- a lawful record is of a complete run, whose trace has an order
pub returns-clause-text : goal.returns-clause-text
returns-clause-text g c account =
    let t = c.args.recorded.now.trace in
    let explained = c.in_ok-explained.explained in
    let verdict = explained.verdict in
    let told = c.in_ok-explained.ensures in
    let explanation = subst (λ t. IsTraceExplanation t (string_bytes explained.text) verdict) c.trace.ensures.is told.rendered in
    let no_order = subst (λ t. verdict ≡ Violation → IsConsistent t → ⊥) c.trace.ensures.is told.says.no_order in
    let whole : IsTraceExplanation t c.into_bytes.result.items verdict = search (rules, explanation) in
    (verdict, whole, λ lawful. consistent_verdict t _ verdict explanation no_order (lawful_consistent c.args.recorded.now c.trace.ensures.kept lawful), c.status_of.ensures)

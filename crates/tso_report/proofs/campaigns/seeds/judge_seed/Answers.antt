use Rattle.std.proofs.Common.{◌↔◌, subst, sym}
use Rattle.std.specs.Prelude.{IsTrue}
use Rattle.tso_model.specs.Axioms.{IsConsistent}
use Rattle.trace_reports.specs.Violations.{IsViolation}
use Rattle.tso_report.specs.Internal.Gathering.{IsKept}
use Rattle.tso_report.proofs.CampaignFacts.{known_of_seed}
use Rattle.tso_report.proofs.campaigns.seeds.judge_seed.Goals as goal

pub invariant_of-result : goal.invariant_of-result
invariant_of-result g c =
    let violation = c.in_ok-violation.violation in
    let says = subst (λ t. IsTrue violation ↔ IsViolation t) c.trace.ensures.is c.in_ok-violation.ensures.violation in
    let no_order = subst (λ t. IsTrue violation → IsConsistent t → ⊥) c.trace.ensures.is c.in_ok-violation.ensures.no_order in
    let text = subst (λ t. IsKept c.args.plan.printing c.in_ok-text.text.items t) c.trace-2.ensures.is c.in_ok-text.ensures in
    rw (sym c.args.job.is) (known_of_seed c.args.plan c.args.job.seed (g.U.MemoryUnit.value_of c.args.job.unit) c.in_ok-recorded.recorded violation
    c.in_ok-text.text.items c.trace.ensures.kept c.in_ok-recorded.ensures says no_order text)

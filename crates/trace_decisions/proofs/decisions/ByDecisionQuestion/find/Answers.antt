use Rattle.std.proofs.Common.{inl, inr}
use Rattle.tso_cert.specs.declared.steps.Certificate.TheVariants as certificate
use Rattle.tso_evidence.specs.declared.evidence.Evidence.TheVariants as evidence
use Rattle.tso_model.proofs.CertificateHolds.{certificate_holds}
use Rattle.trace_decisions.proofs.DecisionFacts.{decision_says, says}
use Rattle.trace_decisions.proofs.decisions.ByDecisionQuestion.find.Goals as goal

pub as_evidence-requires : goal.as_evidence-requires
as_evidence-requires g c = certificate_holds c.args.trace.now c.in-Some-2.certificate (rw c.in-Some-2.is at c.in_ok-certificate.ensures)

pub by_search-requires : goal.by_search-requires
by_search-requires g c = λ violation. elim violation [
  | inl unwritten ↦ c.in_default.ensures unwritten.0 unwritten.1
  | inr cycle ↦ (rw c.in-None.is at c.in_ok-certificate.ensures) cycle
]

pub returns-in-Some-clause-says : goal.returns-in-Some-clause-says
returns-in-Some-clause-says g c =
    says c.args.trace.now c.events-events.ensures.kept (evidence.Unwritten c.in-Some.load) (certificate_holds c.args.trace.now (certificate.Unwritten c.in-Some.load) c.in-Some.ensures)

pub returns-in-Some-2-clause-says : goal.returns-in-Some-2-clause-says
returns-in-Some-2-clause-says g c = says c.args.trace.now c.events-events.ensures.kept c.in_ok-as_evidence-in-Some-2.field-0 c.in_ok-as_evidence-in-Some-2.ensures

pub returns-clause-says : goal.returns-clause-says
returns-clause-says g c = decision_says c.args.self.now.effort c.args.trace.now c.events-events.ensures.kept c.in_ok-by_search-in-None.field-0 c.in_ok-by_search-in-None.ensures

use Rattle.std.proofs.Common.{MatchOption, subst, ◌↔◌, IsTrue}
use Rattle.tso_ops.specs.Events.{IsLoad}
use Rattle.value_evidence.specs.Evidence.{ValueStepHolds}
use Rattle.value_evidence.specs.Refutations.{AreTwoLogEvents, EndHoldsBeside}
use Rattle.value_check.specs.declared.refusals.ValueRefutationFault.TheVariants.{StepRefused, CaseRefused, EndRefused}
use Rattle.value_check.specs.Internal.Walks.{HasLineFault, LineHolds}
use Rattle.value_check.proofs.InForceFacts.{fault_of}
use Rattle.value_check.proofs.in_force.InForce.line_fault.Goals as goal

pub returns-in_ok-holds-in-Step : goal.returns-in_ok-holds-in-Step
returns-in_ok-holds-in-Step c = λ t p at.
    let f = c.args.self.now in
    let told = fault_of c.refusal.result c.in_ok-holds-in-Step.holds (StepRefused c.args.number) (ValueStepHolds t f.steps.items c.in-Step.step)
    (c.in_ok-holds-in-Step.ensures t f.steps.items at.kept.known) c.refusal.ensures in
    subst (λ q. MatchOption c.refusal.result (LineHolds t q c.args.line) (HasLineFault t q c.args.number c.args.line)) at.place (rw c.in-Step.is told)

pub returns-in-ReadCase : goal.returns-in-ReadCase
returns-in-ReadCase c = λ t p at.
    let told = fault_of c.refusal-in-ReadCase.result c.has_load-holds.result (CaseRefused c.args.number) (IsLoad t c.in-ReadCase.load)
    (c.has_load-holds.ensures t c.args.self.now.steps.items at.kept.known) c.refusal-in-ReadCase.ensures in
    rw c.in-ReadCase.is told

pub returns-in-BeforeCase : goal.returns-in-BeforeCase
returns-in-BeforeCase c = λ t p at.
    let told = fault_of c.refusal-in-BeforeCase.result c.has_two-holds.result (CaseRefused c.args.number) (AreTwoLogEvents t c.in-BeforeCase.first c.in-BeforeCase.second)
    (c.has_two-holds.ensures t c.args.self.now.steps.items at.kept.known) c.refusal-in-BeforeCase.ensures in
    rw c.in-BeforeCase.is told

pub returns-in_ok-holds-in-End : goal.returns-in_ok-holds-in-End
returns-in_ok-holds-in-End c = λ t p at.
    let f = c.args.self.now in
    let told = fault_of c.refusal-in-End.result c.in_ok-holds-in-End.holds (EndRefused c.args.number) (EndHoldsBeside t f.steps.items f.aside.items c.in-End.end)
    (subst (λ aside. IsTrue c.in_ok-holds-in-End.holds ↔ EndHoldsBeside t f.steps.items aside c.in-End.end) c.deref.ensures.value
    (c.in_ok-holds-in-End.ensures t f.steps.items at.kept.known)) c.refusal-in-End.ensures in
    subst (λ q. MatchOption c.refusal-in-End.result (LineHolds t q c.args.line) (HasLineFault t q c.args.number c.args.line)) at.place (rw c.in-End.is told)

use Rattle.std.proofs.Common.{◌≡◌, [], ◌+◌, ◌∙◌, ap, sym, length, take, arith}
use Rattle.std.specs.Prelude.{slice_get}
use Rattle.std.proofs.lemmas.Option.{slice_get-get_or}
use Rattle.log_text.specs.LogValues.{log_operations, log_value}
use Rattle.value_evidence.specs.Evidence.{EvidenceHolds, ValueStepHolds}
use Rattle.value_evidence.specs.Refutations.{EndHoldsBeside}
use Rattle.value_evidence.proofs.Soundness.{no_order}
use Rattle.value_check.specs.declared.refusals.ValueRefusal.TheVariants.{EndRefused, StepRefused}
use Rattle.value_check.proofs.AnswerFacts.{not_so}
use Rattle.value_check.proofs.CheckFacts.{end_refused, evidence_holds, first_refused, holds_next, known_next, refused_fails}
use Rattle.value_check.proofs.FollowingFacts.{of_events}
use Rattle.value_check.proofs.checks.check_values.Goals as goal

pub loop-k-preserved : goal.loop-k-preserved
loop-k-preserved c =
    let t = log_operations (log_value c.args.log.now) in
    let steps = c.args.evidence.now.steps.items in
    let k = c.loop-k.k in
    let at = ap (λ all. slice_get all k) (sym c.deref-step-items.ensures.value) ∙ slice_get-get_or c.deref-step-items.result.now k _ c.loop-k-test.true in
    let holds = (c.in_ok-holds.ensures t (take k steps) c.loop-k.invariant.0).0 c.if-not-branch.false in (
      known_next t steps k _ at c.follow.new.self (c.follow.ensures t (take k steps) c.loop-k.invariant.0 (of_events t (take k steps) _ holds)),
      holds_next t steps k _ at holds c.loop-k.invariant.1,
    )

pub returns-then-not-branch-clause-refused : goal.returns-then-not-branch-clause-refused
returns-then-not-branch-clause-refused c =
    let t = log_operations (log_value c.args.log.now) in
    let steps = c.args.evidence.now.steps.items in
    let k = c.loop-k.k in
    let at = ap (λ all. slice_get all k) (sym c.deref-step-items.ensures.value) ∙ slice_get-get_or c.deref-step-items.result.now k _ c.loop-k-test.true in
    let fails = not_so _ (ValueStepHolds t (take k steps) _) (c.in_ok-holds.ensures t (take k steps) c.loop-k.invariant.0) c.if-not-branch.true in
    let refused = first_refused t steps k _ at c.loop-k.invariant.1 fails in
    refused

pub returns-then-not-branch-clause-accepted : goal.returns-then-not-branch-clause-accepted
returns-then-not-branch-clause-accepted c =
    let t = log_operations (log_value c.args.log.now) in
    let steps = c.args.evidence.now.steps.items in
    let k = c.loop-k.k in
    let at = ap (λ all. slice_get all k) (sym c.deref-step-items.ensures.value) ∙ slice_get-get_or c.deref-step-items.result.now k _ c.loop-k-test.true in
    let fails = not_so _ (ValueStepHolds t (take k steps) _) (c.in_ok-holds.ensures t (take k steps) c.loop-k.invariant.0) c.if-not-branch.true in
    let refused = first_refused t steps k _ at c.loop-k.invariant.1 fails in
    λ holds. absurd (refused_fails t c.args.evidence.now (StepRefused (k + 1)) refused holds)

pub returns-then-branch-clause-holds : goal.returns-then-branch-clause-holds
returns-then-branch-clause-holds c =
    let t = log_operations (log_value c.args.log.now) in
    let steps = c.args.evidence.now.steps.items in
    let k = c.loop-k.k in
    let items = ap length c.deref-step-items.ensures.value in
    let whole : k ≡ length steps = omega (arith, items) in
    evidence_holds t c.args.evidence.now k whole c.loop-k.invariant.1 ((c.in_ok-ends.ensures t (take k steps) c.loop-k.invariant.0).0 c.if-branch.true)

pub returns-then-branch-clause-no_order : goal.returns-then-branch-clause-no_order
returns-then-branch-clause-no_order c =
    let t = log_operations (log_value c.args.log.now) in
    let steps = c.args.evidence.now.steps.items in
    let k = c.loop-k.k in
    let items = ap length c.deref-step-items.ensures.value in
    let whole : k ≡ length steps = omega (arith, items) in
    let holds : EvidenceHolds t c.args.evidence.now =
    evidence_holds t c.args.evidence.now k whole c.loop-k.invariant.1 ((c.in_ok-ends.ensures t (take k steps) c.loop-k.invariant.0).0 c.if-branch.true) in
    λ consistent. no_order t c.args.evidence.now holds consistent

pub returns-clause-refused : goal.returns-clause-refused
returns-clause-refused c =
    let t = log_operations (log_value c.args.log.now) in
    let steps = c.args.evidence.now.steps.items in
    let k = c.loop-k.k in
    let items = ap length c.deref-step-items.ensures.value in
    let whole : k ≡ length steps = omega (arith, items) in
    let fails = not_so _ (EndHoldsBeside t (take k steps) [] c.args.evidence.now.end) (c.in_ok-ends.ensures t (take k steps) c.loop-k.invariant.0) c.if-branch.false in
    let refused = end_refused t c.args.evidence.now k whole c.loop-k.invariant.1 fails in
    refused

pub returns-clause-accepted : goal.returns-clause-accepted
returns-clause-accepted c =
    let t = log_operations (log_value c.args.log.now) in
    let steps = c.args.evidence.now.steps.items in
    let k = c.loop-k.k in
    let items = ap length c.deref-step-items.ensures.value in
    let whole : k ≡ length steps = omega (arith, items) in
    let fails = not_so _ (EndHoldsBeside t (take k steps) [] c.args.evidence.now.end) (c.in_ok-ends.ensures t (take k steps) c.loop-k.invariant.0) c.if-branch.false in
    let refused = end_refused t c.args.evidence.now k whole c.loop-k.invariant.1 fails in
    λ holds. absurd (refused_fails t c.args.evidence.now EndRefused refused holds)

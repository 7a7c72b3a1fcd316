use Rattle.std.proofs.Common.{◌∙◌, sym, arith}
use Rattle.std.proofs.lemmas.Bool.{false≢true}
use Rattle.std.proofs.lemmas.Option.{slice_get-get_or, slice_get_within}
use Rattle.unit_core.proofs.OutcomeFacts.{outcomes-more-none}
use Rattle.issue_desk.proofs.AgreementFacts.{answered-next, answered-other}
use Rattle.issue_desk.proofs.agreement.was_answered.Goals as goal
use Rattle.issue_desk.proofs.agreement.was_answered.Goals.{in-Some+else-not-stands_at, in_default}

pub returns-then-not-stands_at : goal.returns-then-not-stands_at
returns-then-not-stands_at c = (
  λ yes. absurd (false≢true yes),
  λ same. absurd (answered-other c.args.outcomes.now c.args.p c.args.steps.now c.loop-step.answered c.loop-step.step-index _ c.in-Some.outcome
      (slice_get-get_or c.args.steps.now c.loop-step.step-index _ c.loop-step-test.true) c.in-Some.ensures.is c.loop-step.invariant.within c.loop-step.invariant.are
      (λ here. false≢true (sym c.if-not-stands_at.true ∙ c.stands_at.ensures.1 here)) same),
)

pub loop-step-preserved : goal.loop-step-preserved
loop-step-preserved c =
    let read = slice_get-get_or c.args.steps.now c.loop-step.step-index _ c.loop-step-test.true in
    elim c.match-outcome_of.branch [
      | in-Some+else-not-stands_at w ↦
          let here = w.stands_at.ensures.0 w.if-not-stands_at.false in
          rw w.answered-is record {
            within = (let low = slice_get_within c.args.outcomes.now c.loop-step.answered _ here in omega arith);
            are = answered-next c.args.outcomes.now c.args.p c.args.steps.now c.loop-step.answered c.loop-step.step-index _ w.in-Some.outcome read here w.in-Some.ensures.is
                c.loop-step.invariant.are;
          }
      | in_default w ↦
          rw w.answered-is record {
            within = c.loop-step.invariant.within;
            are = outcomes-more-none c.args.p c.args.steps.now c.loop-step.step-index _ _ read c.loop-step.invariant.are w.in_default.ensures.is;
          }
    ]

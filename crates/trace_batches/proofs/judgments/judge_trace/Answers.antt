use Rattle.std.proofs.Common.{subst, sym}
use Rattle.request_options.specs.declared.batches.BatchMethod.TheVariants.{Decide}
use Rattle.trace_batches.specs.Judgments.{asking, IsJudgmentOn}
use Rattle.trace_batches.proofs.JudgmentFacts.{decision_said}
use Rattle.trace_batches.proofs.judgments.judge_trace.Goals as goal

pub returns-in_ok-judgment-in-Decide-clause-said : goal.returns-in_ok-judgment-in-Decide-clause-said
returns-in_ok-judgment-in-Decide-clause-said g c =
    let is = c.in_ok-decision-in-Decide.ensures in
    let t = c.args.trace.now in
    let explains = c.args.question.explains in
    subst (λ method. IsJudgmentOn (asking method explains) t c.in_ok-judgment-in-Decide.judgment) (sym c.in-Decide.is)
    (subst (IsJudgmentOn (asking (Decide c.in-Decide.effort) explains) t) (sym c.in_ok-judgment-in-Decide.ensures)
    (decision_said t c.in_ok-decision-in-Decide.decision c.in-Decide.effort explains is.found is.says))

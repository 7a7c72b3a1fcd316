use Rattle.std.proofs.Common.{refl, subst}
use Rattle.trace_batches.specs.Internal.Progress.{IsOutcome}
use Rattle.trace_batches.proofs.JobFacts.{outcome_of}
use Rattle.trace_batches.proofs.jobs.Job.judge.Goals as goal

pub returns : goal.returns
returns g c =
    (refl, subst (λ piece. IsOutcome c.args.question piece c.judge_trace_text.result) c.deref.ensures.value (outcome_of c.args.question c.deref.result.now c.judge_trace_text.result c.judge_trace_text.ensures.said c.judge_trace_text.ensures.fault))

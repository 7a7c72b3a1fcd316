use Rattle.trace_batches.proofs.JudgmentFacts.{one_judgment, refusal_said, some_judgment, verdict_said}
use Rattle.trace_batches.specs.Judgments.{asking}
use Rattle.request_options.specs.declared.batches.BatchMethod.TheVariants.{Judge}
use Rattle.trace_batches.proofs.laws.judgments.Goals as goal

pub returns : goal.returns
returns c = record { exists = λ explains. some_judgment (asking Judge explains); one = one_judgment; verdict = verdict_said; refusal = λ explains. refusal_said }

use Rattle.trace_batches.proofs.JudgmentFacts.{alike_decisions, one_decision}
use Rattle.trace_batches.proofs.laws.decisions.Goals as goal

pub returns : goal.returns
returns c = record { one = one_decision; alike = alike_decisions; refusal = λ question piece fault. (λ refused. refused, λ refused. refused) }

use Rattle.std.proofs.lemmas.Result.{IfOk-weaker}
use Rattle.trace_batches.proofs.JudgmentFacts.{said_of_trace_text}
use Rattle.trace_batches.proofs.judgments.judge_trace_text.Goals as goal

pub returns-in-Ok-clause-said : goal.returns-in-Ok-clause-said
returns-in-Ok-clause-said g c =
    IfOk-weaker c.judge_trace.result _ _ (λ judgment said. said_of_trace_text c.args.question c.args.piece.now c.in-Ok.trace judgment c.in-Ok.ensures.found said) c.judge_trace.ensures.said

use Rattle.std.proofs.lemmas.Result.{on_err_weaker}
use Rattle.trace_batches.proofs.WholeFacts.{end_left, ended, whatever}
use Rattle.request_serving.proofs.BatchingFacts.{done_of, if_ok, on_ok_holds}
use Rattle.request_serving.proofs.serving.batching.batch_named.Goals as goal

pub returns-in_err-batch-clause-left : goal.returns-in_err-batch-clause-left
returns-in_err-batch-clause-left g c = whatever c.from_residual.result c.in_err-batch.ensures.left

pub returns-clause-whole : goal.returns-clause-whole
returns-clause-whole g c =
    let judged = c.in_ok-batch.ensures.judged in
    done_of c.end.result (λ verdict ends. (judged.0, judged.1, ended _ _ _ _ _ _ _ judged.2 _ _ verdict ends)) c.end.ensures.ended

pub returns-clause-left : goal.returns-clause-left
returns-clause-left g c =
    let judged = c.in_ok-batch.ensures.judged in
    on_err_weaker c.end.result (λ left. (judged.0, judged.1, end_left _ _ _ _ _ _ _ judged.2 _ _ left)) c.end.ensures.left

pub returns-clause-opened : goal.returns-clause-opened
returns-clause-opened g c = if_ok c.end.result c.in_ok-batch.ensures.opened

pub returns-clause-taken : goal.returns-clause-taken
returns-clause-taken g c = λ reads. if_ok c.end.result (on_ok_holds c.judge_each.result c.in_ok-batch.was (c.judge_each.ensures.taken reads))

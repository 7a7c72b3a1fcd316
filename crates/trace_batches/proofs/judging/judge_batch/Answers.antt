use Rattle.std.proofs.Common.{[]}
use Rattle.std.proofs.lemmas.Result.{IfOk-weaker, on_err_weaker}
use Rattle.trace_batches.specs.Batches.{one_text}
use Rattle.trace_batches.proofs.WholeFacts.{begun, end_left, ended, head_left, judged_left, judged_more, whatever}
use Rattle.trace_batches.proofs.judging.judge_batch.Goals as goal

pub returns-in_err-batch-clause-left : goal.returns-in_err-batch-clause-left
returns-in_err-batch-clause-left g c =
    whatever c.from_residual.result
    (head_left c.args.options.printing (one_text (g.R.Read.remaining c.args.reader.now)) _ _ (g.E.Write.contents c.args.errors.now) c.in_err-batch.ensures.prefix)

pub returns-in_err-judge-clause-left : goal.returns-in_err-judge-clause-left
returns-in_err-judge-clause-left g c =
    let start = begun _ _ _ _ (g.E.Write.contents c.args.errors.now) c.in_ok-batch.ensures.begun c.in_ok-batch.ensures.whole in
    whatever c.from_residual-in_err-judge.result (judged_left _ _ [] _ _ _ _ start _ [] _ _ c.in_err-judge.ensures.left)

pub returns-clause-whole : goal.returns-clause-whole
returns-clause-whole g c =
    let start = begun _ _ _ _ (g.E.Write.contents c.args.errors.now) c.in_ok-batch.ensures.begun c.in_ok-batch.ensures.whole in
    let judged = judged_more _ _ [] _ _ _ _ start _ _ _ _ c.in_ok-judge.ensures.judged in
    IfOk-weaker c.end.result _ _ (λ verdict ends. ended _ _ _ _ _ _ _ judged _ _ verdict ends) c.end.ensures.ended

pub returns-clause-left : goal.returns-clause-left
returns-clause-left g c =
    let start = begun _ _ _ _ (g.E.Write.contents c.args.errors.now) c.in_ok-batch.ensures.begun c.in_ok-batch.ensures.whole in
    let judged = judged_more _ _ [] _ _ _ _ start _ _ _ _ c.in_ok-judge.ensures.judged in
    on_err_weaker c.end.result (λ left. end_left _ _ _ _ _ _ _ judged _ _ left) c.end.ensures.left

use Rattle.request_serving.proofs.BatchingFacts.{in_file, in_input, in_no_file, left_in_file, left_in_input, left_in_no_file}
use Rattle.request_serving.proofs.serving.batching.NamedText.judge.Goals as goal

pub returns-in-None-clause-judged : goal.returns-in-None-clause-judged
returns-in-None-clause-judged g c = rw c.in-None.is (in_input _ _ (g.O.Environment.bytes c.args.files.now) _ _ _ _ _ _ c.judge.result c.judge.ensures.judged)

pub returns-in-None-clause-left : goal.returns-in-None-clause-left
returns-in-None-clause-left g c = rw c.in-None.is (left_in_input _ _ (g.O.Environment.bytes c.args.files.now) _ _ _ _ _ c.judge.result c.judge.ensures.left)

pub returns-in-Ok-clause-judged : goal.returns-in-Ok-clause-judged
returns-in-Ok-clause-judged g c =
    rw c.in-Some.is (in_file _ (g.R.Read.remaining c.args.reader.now) (g.O.Environment.bytes c.args.files.now) c.in-Some.name.now _ c.in-Ok.ensures.known _ _ _ _ _ _ c.judge-in-Ok.result c.judge-in-Ok.ensures.judged)

pub returns-in-Ok-clause-left : goal.returns-in-Ok-clause-left
returns-in-Ok-clause-left g c =
    rw c.in-Some.is (left_in_file _ (g.R.Read.remaining c.args.reader.now) (g.O.Environment.bytes c.args.files.now) c.in-Some.name.now _ c.in-Ok.ensures.known _ _ _ _ _ c.judge-in-Ok.result c.judge-in-Ok.ensures.left)

pub returns-in-Err-clause-judged : goal.returns-in-Err-clause-judged
returns-in-Err-clause-judged g c =
    rw c.in-Some.is (in_no_file _ (g.R.Read.remaining c.args.reader.now) (g.O.Environment.bytes c.args.files.now) c.in-Some.name.now _ _ _ _ _ _ c.leave_out.result c.leave_out.ensures.judged)

pub returns-in-Err-clause-left : goal.returns-in-Err-clause-left
returns-in-Err-clause-left g c =
    rw c.in-Some.is (left_in_no_file _ (g.R.Read.remaining c.args.reader.now) (g.O.Environment.bytes c.args.files.now) c.in-Some.name.now _ _ _ _ _ c.leave_out.result c.leave_out.ensures.left)

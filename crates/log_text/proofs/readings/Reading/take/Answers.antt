use Rattle.std.proofs.lemmas.Result.{on_ok_weaker}
use Rattle.log_text.proofs.readings.Reading.take.Goals as goal

pub returns-in-Pso : goal.returns-in-Pso
returns-in-Pso c = rw c.in-Pso.is (c.take_model.ensures c.args.number)

pub returns-in-First : goal.returns-in-First
returns-in-First c = on_ok_weaker c.take_first.result (λ adds. rw c.in-First.is (adds c.args.number)) c.take_first.ensures

pub returns-in-Unknown : goal.returns-in-Unknown
returns-in-Unknown c = on_ok_weaker c.take_unknown.result (λ adds. rw c.in-Unknown.is (adds c.args.number)) c.take_unknown.ensures

pub returns-in-End : goal.returns-in-End
returns-in-End c = rw c.in-End.is (c.take_end.ensures c.args.number)

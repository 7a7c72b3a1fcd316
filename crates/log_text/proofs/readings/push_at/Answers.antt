use Rattle.std.proofs.Common.{arith}
use Rattle.log_text.proofs.ReadingFacts.{rows-push_at}
use Rattle.log_text.proofs.readings.push_at.Goals as goal

pub returns : goal.returns
returns c = rows-push_at c.args.lists.now.items c.args.p c.index_mut.result.now c.push.new.self c.args.x c.push.result (omega (arith, c.args.lists.now.ok.0)) c.index_mut.ensures.value c.push.ensures.items

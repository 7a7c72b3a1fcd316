use Rattle.std.proofs.Common.{arith}
use Rattle.tso_text.proofs.LineFacts.{rows-push_last}
use Rattle.tso_text.proofs.readings.push_last.Goals as goal

pub returns : goal.returns
returns g c = rows-push_last c.args.lists.now.items _ c.index_mut.result.now c.push.new.self c.args.item c.push.result (omega (arith, c.args.lists.now.ok.0)) c.index_mut.ensures.value c.push.ensures.items

use Rattle.std.proofs.Common.{arith, length-drop}
use Rattle.text_streams.proofs.StreamFacts.{written_more}
use Rattle.text_streams.proofs.writing.write_text.Goals as goal

pub loop-written-preserved-in-Ok : goal.loop-written-preserved-in-Ok
loop-written-preserved-in-Ok g c = record {
  bound = grind (arith, length-drop, c.in-Ok.ensures.bound, c.loop-written-test.true);
  tries = c.loop-written.invariant.tries;
  prefix = written_more _ _ _ c.args.text.now c.loop-written.written c.in-Ok.count c.loop-written.invariant.prefix c.in-Ok.ensures.bytes;
}

use Rattle.log_text.proofs.CutFacts.{above_next}
use Rattle.log_text.proofs.cutting.above_bytes.Goals as goal

pub loop-i-preserved : goal.loop-i-preserved
loop-i-preserved c = above_next c.args.value c.loop-i.left c.loop-i._i c.loop-i.invariant

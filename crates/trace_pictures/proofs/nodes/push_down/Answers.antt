use Rattle.trace_pictures.specs.Nodes.{down_text}
use Rattle.trace_pictures.proofs.nodes.push_down.Goals as goal

pub returns : goal.returns
unfolding down_text
returns c = rw c.close_mark-mark.ensures at c.write.ensures.bytes

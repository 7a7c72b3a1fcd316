use Rattle.trace_pictures.specs.Nodes.{init_text}
use Rattle.trace_pictures.proofs.nodes.push_init.Goals as goal

pub returns : goal.returns
unfolding init_text
returns c = rw c.in_ok-lines.ensures at c.write.ensures.bytes

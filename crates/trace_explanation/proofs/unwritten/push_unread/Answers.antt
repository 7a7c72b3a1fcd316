use Rattle.trace_explanation.specs.Explanations.{unwritten_load_text}
use Rattle.trace_explanation.proofs.unwritten.push_unread.Goals as goal

pub returns : goal.returns
unfolding unwritten_load_text
returns c = rw (c.line-line.ensures, c.name-name.ensures, c.address-address.ensures, c.first-first.ensures) at c.write.ensures.bytes

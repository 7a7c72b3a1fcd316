use Rattle.trace_explanation.specs.Diagnoses.{stale_line}
use Rattle.trace_explanation.proofs.diagnoses.push_stale.Goals as goal

pub returns : goal.returns
unfolding stale_line
returns c = rw (c.in_ok-read.ensures, c.in_ok-missed.ensures, c.in_ok-before.ensures, c.in_ok-shape.ensures, c.item-store.ensures, c.last_of-load.ensures) at c.write.ensures.bytes

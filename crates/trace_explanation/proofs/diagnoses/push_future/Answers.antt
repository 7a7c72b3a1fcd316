use Rattle.trace_explanation.specs.Diagnoses.{future_line}
use Rattle.trace_explanation.proofs.diagnoses.push_future.Goals as goal

pub returns : goal.returns
unfolding future_line
returns c = rw (c.in_ok-read.ensures, c.in_ok-source.ensures, c.in_ok-place.ensures, c.in_ok-shape.ensures, c.deref.ensures, c.in_ok-cycle_shape.ensures, c.item-load.ensures, c.last_of-store.ensures) at c.write.ensures.bytes

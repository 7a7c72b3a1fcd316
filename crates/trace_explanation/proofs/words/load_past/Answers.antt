use Rattle.trace_explanation.specs.Words.{inferred_long}
use Rattle.trace_explanation.proofs.words.load_past.Goals as goal

pub returns : goal.returns
unfolding inferred_long
returns c u v = rw (c.name-name.ensures, c.in_ok-read.ensures) at c.format.ensures.ok

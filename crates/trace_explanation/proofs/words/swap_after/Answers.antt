use Rattle.trace_explanation.specs.Words.{inferred_long}
use Rattle.trace_explanation.proofs.words.swap_after.Goals as goal

pub returns : goal.returns
unfolding inferred_long
returns c u = rw (c.name-store.ensures, c.name-swap_load.ensures) at c.format.ensures.ok

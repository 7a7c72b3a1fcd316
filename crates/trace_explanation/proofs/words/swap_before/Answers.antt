use Rattle.trace_explanation.specs.Words.{inferred_long}
use Rattle.trace_explanation.proofs.words.swap_before.Goals as goal

pub returns : goal.returns
unfolding inferred_long
returns c v = rw (c.name-store.ensures, c.name_after-swap_store.ensures) at c.format.ensures.ok

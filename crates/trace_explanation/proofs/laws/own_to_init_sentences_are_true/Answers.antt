use Rattle.tso_ops.proofs.NumberFacts.{own_values}
use Rattle.trace_explanation.proofs.ClaimFacts.{own_to_init_says}
use Rattle.trace_explanation.proofs.laws.own_to_init_sentences_are_true.Goals as goal

pub returns : goal.returns
returns c t order trace memory l u by = own_to_init_says t (own_values t trace) order memory l u by

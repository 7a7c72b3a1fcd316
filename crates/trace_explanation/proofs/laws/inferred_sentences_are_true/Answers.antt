use Rattle.tso_ops.proofs.NumberFacts.{own_values}
use Rattle.trace_explanation.proofs.ClaimFacts.{inferred_says}
use Rattle.trace_explanation.proofs.laws.inferred_sentences_are_true.Goals as goal

pub returns : goal.returns
returns c t order trace memory rule l u v x y by_axiom by path = inferred_says t (own_values t trace) order memory rule l u v x y by_axiom by path

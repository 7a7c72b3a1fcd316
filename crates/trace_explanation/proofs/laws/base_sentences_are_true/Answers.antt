use Rattle.tso_ops.proofs.NumberFacts.{own_values}
use Rattle.trace_explanation.proofs.ClaimFacts.{base_says}
use Rattle.trace_explanation.proofs.laws.base_sentences_are_true.Goals as goal

pub returns : goal.returns
returns c t order trace memory rule u v l by_axiom pair own_by = base_says t (own_values t trace) order memory rule u v l by_axiom pair own_by

use Rattle.trace_explanation.specs.Explanations.{cycle_head}
use Rattle.trace_explanation.proofs.cycles.push_head.Goals as goal

pub returns : goal.returns
unfolding cycle_head
returns c = rw (c.model_name-model.ensures, c.order_sentences-sentences.ensures, c.noun-noun.ensures) at c.write.ensures.bytes

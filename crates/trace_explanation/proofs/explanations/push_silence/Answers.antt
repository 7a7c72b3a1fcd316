use Rattle.trace_explanation.specs.Explanations.{silence_text}
use Rattle.trace_explanation.proofs.explanations.push_silence.Goals as goal

pub returns : goal.returns
unfolding silence_text
returns c = rw (c.model_name-model.ensures, c.noun-noun.ensures) at c.write.ensures.bytes

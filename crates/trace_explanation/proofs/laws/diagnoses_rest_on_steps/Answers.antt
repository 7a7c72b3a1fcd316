use Rattle.trace_explanation.proofs.WalkFacts.{walk-step}
use Rattle.trace_explanation.proofs.laws.diagnoses_rest_on_steps.Goals as goal

pub returns : goal.returns
returns c = walk-step

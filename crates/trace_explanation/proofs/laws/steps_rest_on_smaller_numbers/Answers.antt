use Rattle.trace_explanation.proofs.ReferenceFacts.{path_numbers}
use Rattle.trace_explanation.proofs.laws.steps_rest_on_smaller_numbers.Goals as goal

pub returns : goal.returns
returns c = path_numbers

use Rattle.trace_explanation.proofs.LineFacts.{line_is, text_is}
use Rattle.trace_explanation.proofs.laws.operations_stand_on_their_lines.Goals as goal

pub returns : goal.returns
returns c = record { lines = text_is; operation = line_is }

use Rattle.trace_pictures.proofs.ChoiceFacts.{all_drawn}
use Rattle.trace_pictures.proofs.laws.all_are_drawn.Goals as goal

pub returns : goal.returns
returns c = all_drawn

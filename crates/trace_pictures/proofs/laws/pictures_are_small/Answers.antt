use Rattle.trace_pictures.proofs.ChoiceFacts.{drawn_most}
use Rattle.trace_pictures.proofs.laws.pictures_are_small.Goals as goal

pub returns : goal.returns
returns c = drawn_most

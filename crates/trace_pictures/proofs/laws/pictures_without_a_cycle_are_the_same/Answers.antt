use Rattle.trace_pictures.proofs.FieldFacts.{silent_same, unwritten_same}
use Rattle.trace_pictures.proofs.laws.pictures_without_a_cycle_are_the_same.Goals as goal

pub returns : goal.returns
returns c = record { silent = silent_same; unwritten = unwritten_same }

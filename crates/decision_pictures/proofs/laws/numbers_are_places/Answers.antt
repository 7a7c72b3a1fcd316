use Rattle.decision_pictures.proofs.NumberFacts.{model_number, number_is_place}
use Rattle.decision_pictures.proofs.laws.numbers_are_places.Goals as goal

pub returns : goal.returns
returns c = record { places = number_is_place; model = model_number }

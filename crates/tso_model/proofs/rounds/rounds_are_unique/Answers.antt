use Rattle.tso_model.proofs.rounds.rounds_are_unique.Goals as goal
use Rattle.tso_model.proofs.RoundsNumber.{rounds_unique}

pub returns : goal.returns
returns c = rounds_unique

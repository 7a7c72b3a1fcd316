use Rattle.tso_model.proofs.rounds.rounds_exist.Goals as goal
use Rattle.tso_model.proofs.RoundsNumber.{rounds_exist as exist}

pub returns : goal.returns
returns c = exist

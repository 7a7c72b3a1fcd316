use Rattle.tso_model.proofs.rounds.rounds_tell_cycles.Goals as goal
use Rattle.tso_model.proofs.RoundsNumber.{rounds_tell_cycles as tell}

pub returns : goal.returns
returns c = tell

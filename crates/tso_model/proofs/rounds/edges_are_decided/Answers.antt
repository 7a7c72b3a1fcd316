use Rattle.tso_model.proofs.rounds.edges_are_decided.Goals as goal
use Rattle.tso_model.proofs.Decided.{RankSet-decided}

pub returns : goal.returns
returns c = RankSet-decided

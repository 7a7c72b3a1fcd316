use Rattle.tso_model.proofs.rounds.rank_sets_grow.Goals as goal
use Rattle.tso_model.proofs.LastRankSet.{RankSet-mono}

pub returns : goal.returns
returns c = RankSet-mono

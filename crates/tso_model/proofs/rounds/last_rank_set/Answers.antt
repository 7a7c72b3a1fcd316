use Rattle.tso_model.proofs.rounds.last_rank_set.Goals as goal
use Rattle.tso_model.proofs.LastRankSet.{last_exists, IsLast-all}

pub returns-clause-exists : goal.returns-clause-exists
returns-clause-exists c = last_exists

pub returns-clause-greatest : goal.returns-clause-greatest
returns-clause-greatest c = IsLast-all

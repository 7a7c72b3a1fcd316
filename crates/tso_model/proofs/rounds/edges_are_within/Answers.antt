use Rattle.tso_model.proofs.rounds.edges_are_within.Goals as goal
use Rattle.std.proofs.Common.{arith}
use Rattle.tso_model.proofs.Bounds.{RankSet-within}

pub returns : goal.returns
returns c = λ t k u v e. let within = RankSet-within t k u v e in (omega arith, omega arith)

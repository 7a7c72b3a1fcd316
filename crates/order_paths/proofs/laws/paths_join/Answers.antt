use Rattle.std.proofs.Common.{IsTrue}
use Rattle.order_paths.proofs.laws.paths_join.Goals as goal
use Rattle.order_paths.proofs.Reach.{Reaches-join}

pub returns : goal.returns
returns c = λ edge. Reaches-join (λ x y. IsTrue (edge x y))

use Rattle.std.proofs.Common.{IsTrue}
use Rattle.order_paths.proofs.laws.edge_is_path.Goals as goal
use Rattle.order_paths.proofs.Reach.{Reaches-edge}

pub returns : goal.returns
returns c = λ edge. Reaches-edge (λ x y. IsTrue (edge x y))

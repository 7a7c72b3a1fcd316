use Rattle.std.proofs.Common.{IsTrue}
use Rattle.order_paths.proofs.laws.path_splits_at_last.Goals as goal
use Rattle.order_paths.proofs.Reach.{Reaches-split_last}

pub returns : goal.returns
returns c = λ edge. Reaches-split_last (λ x y. IsTrue (edge x y))

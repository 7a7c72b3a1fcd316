use Rattle.std.proofs.Common.{IsTrue}
use Rattle.order_paths.proofs.laws.paths_are_decided.Goals as goal
use Rattle.order_paths.proofs.Decisions.{Decision-IsTrue}
use Rattle.order_paths.proofs.Reach.{Reaches-decided}

pub returns : goal.returns
returns c = λ edge n. Reaches-decided (λ x y. IsTrue (edge x y)) n (λ x y. Decision-IsTrue (edge x y))

use Rattle.std.proofs.Common.{IsTrue}
use Rattle.order_paths.proofs.laws.least_path_is_one.Goals as goal
use Rattle.order_paths.proofs.Decisions.{Decision-IsTrue}
use Rattle.order_paths.proofs.Least.{least_path_unique}
use Rattle.order_paths.proofs.LeastExists.{least_path_exists}

pub returns-clause-exists : goal.returns-clause-exists
returns-clause-exists c = λ edge n. least_path_exists (λ x y. IsTrue (edge x y)) n (λ x y. Decision-IsTrue (edge x y))

pub returns-clause-unique : goal.returns-clause-unique
returns-clause-unique c = λ edge. least_path_unique (λ x y. IsTrue (edge x y))

use Rattle.std.proofs.Common.{IsTrue}
use Rattle.order_paths.proofs.laws.more_edges_have_more_paths.Goals as goal
use Rattle.order_paths.proofs.Reach.{Reaches-mono, Linked-mono}

pub returns-clause-paths : goal.returns-clause-paths
returns-clause-paths c = λ edge other. Reaches-mono (λ x y. IsTrue (edge x y)) (λ x y. IsTrue (other x y))

pub returns-clause-linked : goal.returns-clause-linked
returns-clause-linked c = λ edge other. Linked-mono (λ x y. IsTrue (edge x y)) (λ x y. IsTrue (other x y))

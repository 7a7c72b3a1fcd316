use Rattle.std.proofs.Common.{IsTrue}
use Rattle.order_paths.proofs.laws.transitive_sets_have_paths.Goals as goal
use Rattle.order_paths.proofs.Reach.{Reaches-into}

pub returns : goal.returns
returns c = λ edge set each join. Reaches-into (λ x y. IsTrue (edge x y)) (λ x y. IsTrue (set x y)) join each

use Rattle.std.proofs.Common.{IsTrue}
use Rattle.order_paths.proofs.laws.cycles_are_paths.Goals as goal
use Rattle.order_paths.proofs.Reach.{HasCycle-iff}

pub returns : goal.returns
returns c = λ edge. HasCycle-iff (λ x y. IsTrue (edge x y))

use Rattle.std.proofs.Common.{◌↔◌, length}
use Rattle.order_paths.specs.Paths.{Linked}
use Rattle.refutation_check.specs.Internal.Pairs.{InForce}
use Rattle.refutation_check.proofs.listed.is_linked.Given as goal

-- the numbers are linked exactly if the rest of them is
abbrev pub invariant-loop-rest : goal.invariant-loop-rest
invariant-loop-rest l = Linked (InForce l.pairs.pairs.items) l.numbers ↔ Linked (InForce l.pairs.pairs.items) l.rest

abbrev pub decreases-loop-rest : goal.decreases-loop-rest
decreases-loop-rest l = length l.rest

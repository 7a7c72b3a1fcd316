use Rattle.std.proofs.Common.{◌↔◌, length}
use Rattle.order_paths.specs.Paths.{Linked}
use Rattle.tso_model.specs.Certs.{IsStep}
use Rattle.cert_check.proofs.listed.is_linked.Given as goal

-- the numbers are linked exactly if the rest of them is
abbrev pub invariant-loop-rest : goal.invariant-loop-rest
invariant-loop-rest l = Linked (λ x y. IsStep l.steps x y) l.numbers ↔ Linked (λ x y. IsStep l.steps x y) l.rest

abbrev pub decreases-loop-rest : goal.decreases-loop-rest
decreases-loop-rest l = length l.rest

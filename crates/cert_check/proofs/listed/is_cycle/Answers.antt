use Rattle.std.proofs.Common.{refl}
use Rattle.tso_model.specs.Certs.{IsStep}
use Rattle.cert_check.proofs.Facts.{cycle_by_place}
use Rattle.cert_check.proofs.listed.is_cycle.Goals as goal

pub returns-then-is_linked : goal.returns-then-is_linked
returns-then-is_linked c =
    cycle_by_place (λ x y. IsStep c.args.steps.now x y) c.args.cycle.now c.lists.result c.in-len1-up.len_at_least (c.if-is_linked.ensures.0 refl) c.lists.ensures

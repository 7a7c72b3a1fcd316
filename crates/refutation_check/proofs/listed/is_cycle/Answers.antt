use Rattle.std.proofs.Common.{refl}
use Rattle.refutation_check.specs.Internal.Pairs.{InForce}
use Rattle.cert_check.proofs.Facts.{cycle_by_place}
use Rattle.refutation_check.proofs.listed.is_cycle.Goals as goal

pub returns-then-is_linked : goal.returns-then-is_linked
returns-then-is_linked c =
    cycle_by_place (InForce c.args.pairs.now.pairs.items) c.args.cycle.now c.has.result c.in-len1-up.len_at_least (c.if-is_linked.ensures.0 refl) c.has.ensures

use Rattle.std.proofs.Common.{◌*◌, length, subst, arith}
use Rattle.chain_reach.proofs.LoweredFacts.{Lowered, Lowered-row}
use Rattle.chain_reach.proofs.lowering.lower_row.Goals as goal

pub returns : goal.returns
returns c =
    Lowered-row c.args.first.now c.loop-d.first c.args.given.now c.args.x (length c.args.given.now)
    (subst (λ n. Lowered c.args.first.now c.loop-d.first c.args.given.now (c.args.x * length c.args.given.now) n) (omega arith) c.loop-d.invariant)

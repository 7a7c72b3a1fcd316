use Rattle.std.proofs.Common.{◌*◌}
use Rattle.chain_reach.proofs.LoweredFacts.{Copied}
use Rattle.chain_reach.proofs.lowering.give_row.Given as goal

abbrev pub invariant-loop-d : goal.invariant-loop-d
invariant-loop-d l = Copied l.first l.given (l.x * l.count) l.d

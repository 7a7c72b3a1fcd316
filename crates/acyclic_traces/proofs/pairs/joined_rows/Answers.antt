use Rattle.std.proofs.Common.{arith}
use Rattle.acyclic_traces.proofs.PairFacts.{looked_less}
use Rattle.acyclic_traces.proofs.pairs.joined_rows.Goals as goal

pub loop-left-smaller : goal.loop-left-smaller
loop-left-smaller c = looked_less c.loop-left.left _ (omega arith)

use Rattle.std.proofs.Common.{length}
use Rattle.chain_reach.proofs.ChainFacts.{Walks}
use Rattle.chain_reach.proofs.lowering.lower_chain.Given as goal

abbrev pub invariant-loop-i : goal.invariant-loop-i
invariant-loop-i l =
    Walks l.chains.keys.items l.members (length l.edge.given.now) l.initial.first l.first l.edge.given.now l.initial.grown l.grown l.edge.to l.i l.initial.i

abbrev pub decreases-loop-i : goal.decreases-loop-i
decreases-loop-i l = l.i

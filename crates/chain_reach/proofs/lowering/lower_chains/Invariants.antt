use Rattle.std.proofs.Common.{length}
use Rattle.chain_reach.specs.Internal.FirstTables.{GrowsBelow, LowersRows, MarksRows}
use Rattle.chain_reach.proofs.lowering.lower_chains.Given as goal

-- the rows of the chains below d were lowered and marked
abbrev pub invariant-loop-d : goal.invariant-loop-d
invariant-loop-d l =
    let keys = l.chains.keys.items in
    let count = length l.edge.given.now in
    LowersRows l.initial.first l.first count l.edge.given.now (GrowsBelow keys count l.d l.initial.first l.edge.from l.edge.to) ×
    MarksRows l.initial.grown l.grown (GrowsBelow keys count l.d l.initial.first l.edge.from l.edge.to)

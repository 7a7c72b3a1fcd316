use Rattle.std.proofs.Common.{◌-◌, length}
use Rattle.chain_reach.specs.Internal.FirstTables.{Reaches}
use Rattle.chain_reach.proofs.CutFacts.{CutWithin}
use Rattle.chain_reach.proofs.lowering.reaching.Given as goal

abbrev pub invariant-loop-low : goal.invariant-loop-low
invariant-loop-low l = CutWithin l.members (Reaches l.first (length l.edge.given.now) l.edge.from l.edge.from_chain) l.low l.high

abbrev pub decreases-loop-low : goal.decreases-loop-low
decreases-loop-low l = l.high - l.low

use Rattle.std.proofs.Common.{◌-◌}
use Rattle.chain_reach.proofs.CutFacts.{CutWithin}
use Rattle.program_chains.specs.Internal.Pairs.{IsPair}
use Rattle.program_chains.proofs.searches.count_before.Given as goal

abbrev pub invariant-loop-low : goal.invariant-loop-low
invariant-loop-low l = CutWithin l.members (λ u. IsPair l.order l.events u l.v) l.low l.high

abbrev pub decreases-loop-low : goal.decreases-loop-low
decreases-loop-low l = l.high - l.low

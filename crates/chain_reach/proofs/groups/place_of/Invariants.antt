use Rattle.std.proofs.Common.{◌-◌, ◌<◌}
use Rattle.chain_reach.proofs.CutFacts.{CutWithin}
use Rattle.chain_reach.proofs.groups.place_of.Given as goal

abbrev pub invariant-loop-low : goal.invariant-loop-low
invariant-loop-low l = CutWithin l.list (λ x. x < l.n) l.low l.high

abbrev pub decreases-loop-low : goal.decreases-loop-low
decreases-loop-low l = l.high - l.low

use Rattle.std.proofs.Common.{◌-◌}
use Rattle.tso_rules.specs.Rows.{IsLater}
use Rattle.chain_rules.proofs.FirstLaterFacts.{IsCutWithin}
use Rattle.chain_rules.proofs.ordered.first_ordered.Given as goal

abbrev pub invariant-loop-low : goal.invariant-loop-low
invariant-loop-low l = IsCutWithin l.list (IsLater l.trace l.u) l.low l.high

abbrev pub decreases-loop-low : goal.decreases-loop-low
decreases-loop-low l = l.high - l.low

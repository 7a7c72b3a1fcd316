use Rattle.std.proofs.Common.{nat_eq, take}
use Rattle.std.specs.List.{IsDistinct}
use Rattle.log_selections.proofs.known.is_distinct.Given as goal

abbrev pub invariant-loop-k : goal.invariant-loop-k
invariant-loop-k l = IsDistinct nat_eq (take l.k l.addresses)

use Rattle.std.proofs.Common.{◌≡◌, map, take}
use Rattle.tso_ops.specs.Values.{op_of}
use Rattle.issue_desk.proofs.agreement.are_of_ops.Given as goal

abbrev pub invariant-loop-k : goal.invariant-loop-k
invariant-loop-k l = take l.k (map op_of l.outcomes) ≡ take l.k l.ops

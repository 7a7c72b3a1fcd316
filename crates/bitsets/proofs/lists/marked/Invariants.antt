use Rattle.std.proofs.Common.{◌*◌}
use Rattle.bitsets.specs.Rows.{HasNumber}
use Rattle.bitsets.specs.Internal.Lists.{IsListBelow}
use Rattle.bitsets.proofs.lists.marked.Given as goal

-- the marked numbers of the words passed are listed
abbrev pub invariant-loop-j : goal.invariant-loop-j
invariant-loop-j l = IsListBelow l.list.items (HasNumber l.marks) (64 * l.j)

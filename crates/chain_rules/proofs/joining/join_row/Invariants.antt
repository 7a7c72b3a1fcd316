use Rattle.std.proofs.Common.{take}
use Rattle.chain_rules.specs.Internal.Joined.{JoinsRow}
use Rattle.chain_rules.proofs.joining.join_row.Given as goal

-- the numbers of the row that were passed are led to
abbrev pub invariant-loop-v : goal.invariant-loop-v
invariant-loop-v l = JoinsRow l.initial.reach l.reach l.u (take l.v-index l.row)

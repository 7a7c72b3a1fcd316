use Rattle.tso_ops.specs.Values.{rows}
use Rattle.chain_rules.proofs.JoinedFacts.{JoinsBelow}
use Rattle.chain_rules.proofs.joining.join_rows.Given as goal

-- the rows passed were joined
abbrev pub invariant-loop-i : goal.invariant-loop-i
invariant-loop-i l = JoinsBelow l.initial.reach l.reach l.numbers (rows l.made) l.i

use Rattle.tso_ops.specs.Values.{rows}
use Rattle.chain_rules.proofs.RoundFacts.{AreMade}
use Rattle.chain_rules.proofs.rounds.least_rows.Given as goal

-- the rows of the numbers passed are made
abbrev pub invariant-loop-number : goal.invariant-loop-number
invariant-loop-number l = AreMade l.input.trace.now l.input.reach.now l.numbers (rows l.made.items) l.number-index

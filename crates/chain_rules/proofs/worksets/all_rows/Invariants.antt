use Rattle.chain_rules.proofs.RowListFacts.{AreUpTo}
use Rattle.chain_rules.proofs.worksets.all_rows.Given as goal

-- the numbers up to the one that was reached are listed
abbrev pub invariant-loop-u : goal.invariant-loop-u
invariant-loop-u l = AreUpTo l.numbers.items l.u

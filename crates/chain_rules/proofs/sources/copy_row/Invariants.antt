use Rattle.chain_rules.proofs.SourceFacts.{IsCopiedTo}
use Rattle.chain_rules.proofs.sources.copy_row.Given as goal

-- the first d numbers are copied
abbrev pub invariant-loop-d : goal.invariant-loop-d
invariant-loop-d l = IsCopiedTo l.initial.table l.table l.count l.row l.from l.d

use Rattle.bitsets.proofs.TableFacts.{Leaves}
use Rattle.bitsets.proofs.FillFacts.{RowFrom}
use Rattle.tso_rules.proofs.masks.copy_row.Given as goal

-- the words from j on are left to be copied
abbrev pub invariant-loop-j : goal.invariant-loop-j
invariant-loop-j l = Leaves l.initial.table l.table l.width (RowFrom l.initial.table l.width l.row l.from 0) (RowFrom l.initial.table l.width l.row l.from l.j)

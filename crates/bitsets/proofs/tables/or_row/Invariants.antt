use Rattle.bitsets.proofs.TableFacts.{Leaves}
use Rattle.bitsets.proofs.FillFacts.{RowFrom}
use Rattle.bitsets.proofs.tables.or_row.Given as goal

abbrev pub invariant-loop-j : goal.invariant-loop-j
invariant-loop-j l = Leaves l.initial.table l.table l.other.width (RowFrom l.other.words.now l.other.width l.row l.x l.first) (RowFrom l.other.words.now l.other.width l.row l.x l.j)

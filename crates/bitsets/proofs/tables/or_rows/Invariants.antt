use Rattle.bitsets.proofs.FillFacts.{Gathers}
use Rattle.bitsets.proofs.tables.or_rows.Given as goal

abbrev pub invariant-loop-left : goal.invariant-loop-left
invariant-loop-left l = Gathers l.initial.table l.table l.other.words.now l.other.width l.row l.i l.first l.rows l.left

abbrev pub decreases-loop-left : goal.decreases-loop-left
decreases-loop-left l = l.left

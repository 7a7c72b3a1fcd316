use Rattle.bitsets.proofs.FillFacts.{SetsRows, Tells}
use Rattle.bitsets.proofs.tables.set_words.Given as goal

abbrev pub invariant-loop-left : goal.invariant-loop-left
invariant-loop-left l = SetsRows l.initial.table l.table l.width l.j l.rows l.i l.given l.left × Tells l.initial.table l.table l.width l.j l.rows l.i l.given l.left l.fresh

abbrev pub decreases-loop-left : goal.decreases-loop-left
decreases-loop-left l = l.left

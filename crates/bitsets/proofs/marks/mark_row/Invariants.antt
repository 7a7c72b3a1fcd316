use Rattle.bitsets.specs.Rows.{HasNumber, Marks}
use Rattle.bitsets.proofs.MarkFacts.{IsInEarlierWord}
use Rattle.bitsets.proofs.marks.mark_row.Given as goal

-- the numbers of the passed words are marked
abbrev pub invariant-loop-j : goal.invariant-loop-j
invariant-loop-j l = Marks l.fn.marks.items l.marks.items (IsInEarlierWord (HasNumber l.row) l.j)

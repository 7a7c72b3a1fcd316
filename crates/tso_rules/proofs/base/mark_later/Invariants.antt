use Rattle.bitsets.specs.Rows.{Marks}
use Rattle.tso_rules.specs.Rows.{IsLater}
use Rattle.bitsets.proofs.MarkFacts.{IsInEarlierWord}
use Rattle.tso_rules.proofs.base.mark_later.Given as goal

-- the ends in the passed words are marked
abbrev pub invariant-loop-j : goal.invariant-loop-j
invariant-loop-j l = Marks l.fn.marks.items l.marks.items (IsInEarlierWord (IsLater l.trace l.u) l.j)

use Rattle.tso_rules.specs.Internal.MarkedRows.{IsOtherSource}
use Rattle.bitsets.proofs.MarkFacts.{Passed}
use Rattle.tso_rules.proofs.sources.mark_sources.Given as goal

abbrev pub invariant-loop-left : goal.invariant-loop-left
invariant-loop-left l = Passed l.fn.marks.items l.marks.items l.j l.word l.left (IsOtherSource l.trace l.u)

abbrev pub decreases-loop-left : goal.decreases-loop-left
decreases-loop-left l = l.left

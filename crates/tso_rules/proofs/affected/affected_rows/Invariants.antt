use Rattle.std.proofs.Common.{[]}
use Rattle.bitsets.specs.Rows.{Marks}
use Rattle.bitsets.proofs.MarkFacts.{BySteps}
use Rattle.tso_rules.proofs.AffectedFacts.{RestsAt}
use Rattle.tso_rules.proofs.affected.affected_rows.Given as goal

-- the rows that rest on the passed numbers are marked
abbrev pub invariant-loop-k : goal.invariant-loop-k
invariant-loop-k l = Marks [] l.marks.items (BySteps (RestsAt l.trace l.grown) l.k)

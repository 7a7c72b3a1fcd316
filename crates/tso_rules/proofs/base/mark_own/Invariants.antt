use Rattle.bitsets.specs.Rows.{Marks}
use Rattle.tso_model.specs.Rules.{IsOwnBy}
use Rattle.bitsets.proofs.MarkFacts.{ByWords}
use Rattle.tso_rules.proofs.base.mark_own.Given as goal

-- the ends that the loads of the passed words give are marked
abbrev pub invariant-loop-j : goal.invariant-loop-j
invariant-loop-j l = Marks l.fn.marks.items l.marks.items (ByWords (λ n v. IsOwnBy l.trace n l.u v) l.j)

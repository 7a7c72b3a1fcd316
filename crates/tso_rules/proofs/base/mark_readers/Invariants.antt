use Rattle.bitsets.specs.Rows.{Marks}
use Rattle.tso_cert.specs.declared.rules.BaseRule.TheVariants.{Read}
use Rattle.tso_model.specs.Rules.{BasePair}
use Rattle.bitsets.proofs.MarkFacts.{IsInEarlierWord}
use Rattle.tso_rules.proofs.base.mark_readers.Given as goal

-- the readers in the passed words are marked
abbrev pub invariant-loop-j : goal.invariant-loop-j
invariant-loop-j l = Marks l.fn.marks.items l.marks.items (IsInEarlierWord (BasePair l.trace Read l.u) l.j)

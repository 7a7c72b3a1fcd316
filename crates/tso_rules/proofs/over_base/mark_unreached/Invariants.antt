use Rattle.std.proofs.Common.{◌≢◌}
use Rattle.bitsets.specs.Rows.{HasNumber, Marks}
use Rattle.bitsets.proofs.MarkFacts.{IsInEarlierWord}
use Rattle.tso_rules.proofs.over_base.mark_unreached.Given as goal

-- the numbers in the passed words are marked
abbrev pub invariant-loop-j : goal.invariant-loop-j
invariant-loop-j l = Marks l.fn.marks.items l.marks.items (IsInEarlierWord (λ v. (HasNumber l.row v × (HasNumber l.reached v → ⊥)) × (v ≢ l.u)) l.j)

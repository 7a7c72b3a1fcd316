use Rattle.std.proofs.Common.{◌≡◌}
use Rattle.tso_ops.specs.Events.{IsEvent}
use Rattle.bitsets.specs.Rows.{Marks}
use Rattle.bitsets.proofs.MarkFacts.{BySteps}
use Rattle.tso_rules.proofs.base.mark_events.Given as goal

-- the events passed are marked
abbrev pub invariant-loop-n : goal.invariant-loop-n
invariant-loop-n l = Marks l.fn.marks.items l.marks.items (BySteps (λ n v. (v ≡ n) × IsEvent l.trace n) l.n)

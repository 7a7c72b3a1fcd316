use Rattle.std.proofs.Common.{ℕ, ◌<◌}
use Rattle.tso_ops.specs.Events.{IsUnwritten}
use Rattle.traces_for_tests.proofs.sources.has_unwritten_load.Given as goal

-- no number tried so far is an unwritten load's
abbrev pub invariant-loop-l : goal.invariant-loop-l
invariant-loop-l l = (k : ℕ) → k < l.l → IsUnwritten l.trace k → ⊥

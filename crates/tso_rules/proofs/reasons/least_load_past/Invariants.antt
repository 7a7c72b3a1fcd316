use Rattle.std.proofs.Common.{ℕ, ◌<◌}
use Rattle.tso_rules.specs.Internal.MarkedRows.{IsPastBy}
use Rattle.tso_rules.proofs.reasons.least_load_past.Given as goal

-- no load tried so far gives the edge
abbrev pub invariant-loop-load : goal.invariant-loop-load
invariant-loop-load l = (k : ℕ) → k < l.load → IsPastBy l.trace l.reached l.u l.v k → ⊥

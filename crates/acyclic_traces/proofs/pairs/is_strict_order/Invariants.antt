use Rattle.std.proofs.Common.{ℕ, ◌<◌}
use Rattle.acyclic_traces.specs.Internal.Rows.{IsCoveredRow}
use Rattle.acyclic_traces.proofs.pairs.is_strict_order.Given as goal

-- the rows of the numbers passed are covered
abbrev pub invariant-loop-u : goal.invariant-loop-u
invariant-loop-u l = (u : ℕ) → u < l.u → IsCoveredRow l.rows u

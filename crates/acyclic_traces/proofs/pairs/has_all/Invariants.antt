use Rattle.std.proofs.Common.{ℕ, ◌<◌}
use Rattle.acyclic_traces.specs.Internal.Pairs.{HasPair}
use Rattle.acyclic_traces.proofs.pairs.has_all.Given as goal

-- the table has the other's pairs of the numbers passed
abbrev pub invariant-loop-u : goal.invariant-loop-u
invariant-loop-u l = (u v : ℕ) → u < l.u → HasPair l.others u v → HasPair l.rows u v

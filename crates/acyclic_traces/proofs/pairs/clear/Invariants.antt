use Rattle.std.proofs.Common.{◌≡◌, ◌<◌, ℕ, length}
use Rattle.acyclic_traces.specs.Internal.Pairs.{HasPair}
use Rattle.acyclic_traces.proofs.pairs.clear.Given as goal

-- the numbers passed have no pairs
abbrev pub invariant-loop-u : goal.invariant-loop-u
invariant-loop-u l = (length l.rows ≡ 64) × ((u v : ℕ) → u < l.u → HasPair l.rows u v → ⊥)

use Rattle.std.proofs.Common.{◌≡◌, ◌↔◌, ◌<◌, ℕ, length}
use Rattle.acyclic_traces.specs.Internal.Pairs.{HasPair}
use Rattle.acyclic_traces.proofs.pairs.transpose.Given as goal

-- the pairs of the numbers passed are there, turned around
abbrev pub invariant-loop-u : goal.invariant-loop-u
invariant-loop-u l = (length l.columns ≡ 64) × ((v u : ℕ) → HasPair l.columns v u ↔ ((u < l.u) × HasPair l.rows u v))

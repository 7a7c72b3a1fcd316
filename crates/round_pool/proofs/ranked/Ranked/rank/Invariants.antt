use Rattle.std.proofs.Common.{◌<◌, ℕ, get_or, []}
use Rattle.round_pool.specs.Rankings.{ListsEdge}
use Rattle.round_pool.proofs.ranked.Ranked.rank.Given as goal

-- none of the rounds passed added the edge
abbrev pub invariant-loop-k : goal.invariant-loop-k
invariant-loop-k l = (j : ℕ) → j < l.k → ListsEdge (get_or l.self.added j []) l.u l.v → ⊥

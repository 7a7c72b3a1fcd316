use Rattle.std.proofs.Common.{◌≡◌, ◌<◌, ℕ, get_or}
use Rattle.round_pool.specs.Rankings.{edge_from}
use Rattle.round_pool.proofs.ranked.lists_edge.Given as goal

-- none of the edges passed is the one looked for
abbrev pub invariant-loop-edge : goal.invariant-loop-edge
invariant-loop-edge l = (i : ℕ) → i < l.edge-index → get_or l.edges i (edge_from l.u l.v) ≡ edge_from l.u l.v → ⊥

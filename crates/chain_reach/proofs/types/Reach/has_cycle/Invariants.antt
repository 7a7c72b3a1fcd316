use Rattle.std.proofs.Common.{ℕ, ◌<◌}
use Rattle.chain_reach.specs.Leading.{Leads}
use Rattle.chain_reach.proofs.types.Reach.has_cycle.Given as goal

-- no number below x leads to itself
abbrev pub invariant-loop-x : goal.invariant-loop-x
invariant-loop-x l = (y : ℕ) → y < l.x → Leads l.self y y → ⊥

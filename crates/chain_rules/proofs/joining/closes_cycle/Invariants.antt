use Rattle.std.proofs.Common.{ℕ}
use Rattle.tso_ops.specs.Values.{rows}
use Rattle.chain_reach.specs.Leading.{Leads}
use Rattle.chain_rules.proofs.JoinedFacts.{IsListedBelow}
use Rattle.chain_rules.proofs.joining.closes_cycle.Given as goal

-- none of the numbers passed has a number in its row that leads to it
abbrev pub invariant-loop-i : goal.invariant-loop-i
invariant-loop-i l = (u v : ℕ) → IsListedBelow l.numbers (rows l.made) l.i u v → Leads l.reach v u → ⊥

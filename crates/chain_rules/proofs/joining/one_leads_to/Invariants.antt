use Rattle.std.proofs.Common.{ℕ, take}
use Rattle.std.specs.Prelude.{Contains}
use Rattle.chain_reach.specs.Leading.{Leads}
use Rattle.chain_rules.proofs.joining.one_leads_to.Given as goal

-- none of the numbers passed leads there
abbrev pub invariant-loop-v : goal.invariant-loop-v
invariant-loop-v l = (v : ℕ) → Contains (take l.v-index l.row) v → Leads l.reach v l.u → ⊥

use Rattle.std.proofs.Common.{◌<◌, ℕ, slice_index}
use Rattle.chain_reach.specs.Leading.{Leads}
use Rattle.value_check.proofs.known.Known.is_over.Given as goal

-- the store leads to none of those looked at so far
abbrev pub invariant-loop-seen : goal.invariant-loop-seen
invariant-loop-seen l = (k : ℕ) → k < l.seen-index → Leads l.self.reach l.store (slice_index l.seen-items k) → ⊥

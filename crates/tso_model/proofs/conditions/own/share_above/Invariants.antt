use Rattle.std.proofs.Common.{ℕ, ◌/◌, ◌<◌}
use Rattle.tso_model.proofs.OwnLoads.{IsSharedAbove}
use Rattle.tso_model.proofs.conditions.own.share_above.Given as goal

-- the words looked at so far share no number
abbrev pub invariant-loop-j : goal.invariant-loop-j
invariant-loop-j l = (n : ℕ) → n / 64 < l.j → IsSharedAbove l.first l.second l.third l.u n → ⊥

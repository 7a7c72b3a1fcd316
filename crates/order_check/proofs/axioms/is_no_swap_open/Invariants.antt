use Rattle.std.proofs.Common.{ℕ, suc, ◌<◌, ◌/◌}
use Rattle.bitsets.specs.Rows.{HasNumber}
use Rattle.tso_ops.specs.Events.{IsSwapLoad}
use Rattle.order_check.proofs.axioms.is_no_swap_open.Given as goal

-- no swap of the words before is open
abbrev pub invariant-loop-j : goal.invariant-loop-j
invariant-loop-j l = (s : ℕ) → s / 64 < l.j → IsSwapLoad l.trace s → (HasNumber l.left s → ⊥) → HasNumber l.left (suc s) → ⊥
